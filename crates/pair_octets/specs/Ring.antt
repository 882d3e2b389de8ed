-- THE LOOP OF A LINK: two lines, and two ends. In a turn an end takes one octet, the first on the line to it, and puts one
-- behind what is on the line from it.
use Rattle.std.specs.Prelude.{◌≡◌, ℕ, ◌+◌, List, [], ◌∷◌, ◌++◌, length, slice_get, Some}

-- what an end took and put in a turn
pub record Turn : Type 0 where
  pub took : ℕ
  pub put : ℕ

-- the octets under way, the next to come in front, and the turns that each end took so far
pub record Loop : Type 0 where
  pub to_near : List ℕ
  pub to_far : List ℕ
  pub near : List Turn
  pub far : List Turn

abbrev pub flip : Loop → Loop
flip l = record { to_near = l.to_far; to_far = l.to_near; near = l.far; far = l.near }

-- the near end takes a turn
pub record Turns (turn : Turn) (old new : Loop) : Type 0 where
  pub takes : old.to_near ≡ turn.took ∷ new.to_near
  pub puts : new.to_far ≡ old.to_far ++ turn.put ∷ []
  pub near : new.near ≡ old.near ++ turn ∷ []
  pub far : new.far ≡ old.far

-- turns of either end, one after another, from these lines on
pub data Run (a b : List ℕ) : Loop → Type 0 where
  begins : (l : Loop) → l.to_near ≡ a → l.to_far ≡ b → l.near ≡ [] → l.far ≡ [] → Run a b l
  turns : (turn : Turn) (old new : Loop) → Run a b old → Turns turn old new → Run a b new
  turns_far : (turn : Turn) (old new : Loop) → Run a b old → Turns turn (flip old) (flip new) → Run a b new

-- LAW, of a loop that began with these lines
pub record IsRing (a b : List ℕ) (l : Loop) : Type 0 where
  -- as many octets are under way as at first
  pub as_many : length l.to_near + length l.to_far ≡ length a + length b
  -- the near end put an octet; so many turns later as octets are under way it takes what the far end put when it took
  -- that octet
  pub echo : (i : ℕ) (turn later : Turn) → slice_get l.near i ≡ Some turn
      → slice_get l.near (length a + length b + i) ≡ Some later
      → slice_get l.far (length b + i) ≡ Some (record { took = turn.put; put = later.took })

abbrev pub LoopsAreRings : Type 0
LoopsAreRings = (a b : List ℕ) (l : Loop) → Run a b l → IsRing a b l × IsRing b a (flip l)
