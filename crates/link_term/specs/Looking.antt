-- WHAT A TERMINAL SEES OF ITS LINE, turn by turn.
use Rattle.std.specs.Prelude.{◌≡◌, ◌+◌, ◌≤◌, ℕ, List, [], ◌∷◌, ◌++◌, length, Option, None}
use mathlib.Core.List.{IsPrefix}
use Rattle.std.specs.Option.{option_to_list}
use Rattle.term_model.specs.Runs.{Doing}

-- the octets that the line gave, those that this end knows to wait, those that the line took, and the places that this
-- end knows to be free
pub record Seen : Type 0 where
  pub given : List ℕ
  pub waiting : List ℕ
  pub put : List ℕ
  pub free : ℕ

abbrev pub seen : List ℕ → List ℕ → List ℕ → ℕ → Seen
seen given waiting put free = record { given = given; waiting = waiting; put = put; free = free }

-- THE LINE GAVE this octet, or none, AND TOOK these. What waited comes first of what was given and what waits now: more may
-- have come. What was free is, but for what was put, free now: more may be.
pub record Passes (octet : Option ℕ) (put : List ℕ) (before after : Seen) : Type 0 where
  pub given_is : after.given ≡ before.given ++ option_to_list octet
  pub put_is : after.put ≡ before.put ++ put
  pub waits : IsPrefix before.waiting (option_to_list octet ++ after.waiting)
  pub frees : before.free ≤ after.free + length put

-- A TURN LOOKED AT THE LINE: it took an octet where it knew of one, and put one where it knows of a free place
pub record Looks (octet : Option ℕ) (put : List ℕ) (before after : Seen) : Type 0 where
  pub passes : Passes octet put before after
  pub none_waited : octet ≡ None → before.waiting ≡ []
  pub was_full : put ≡ [] → after.free ≡ 0

-- each of these turns did, and found the line as the one before it had left it
abbrev pub AllLook : List Doing → Seen → Seen → Type 0
AllLook [] before after = after ≡ before
AllLook (doing ∷ rest) before after = (mid : Seen) × Looks doing.octet doing.put before mid × AllLook rest mid after
