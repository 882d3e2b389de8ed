-- WHERE A MESSAGE STANDS by its fate, on any link, or on none.
use Rattle.std.specs.Prelude.{ℕ, ◌==◌, Bool, true, false, Option, Some, None}
use Rattle.set_events.specs.declared.answer.Fate.{Fate}
use Rattle.set_events.specs.declared.answer.Fate.TheVariants.{Waiting, Unacked, Acked, Held, Parked, Back, Discarded}
use Rattle.set_events.specs.Numbers.{cause_number}

-- the same fate; for a discarded one of the same cause
abbrev pub same_fate : Fate → Fate → Bool
same_fate (Waiting l) (Waiting k) = l == k
same_fate (Unacked l) (Unacked k) = l == k
same_fate (Acked l) (Acked k) = l == k
same_fate (Held l) (Held k) = l == k
same_fate Parked Parked = true
same_fate (Back c) (Back d) = c == d
same_fate (Discarded c) (Discarded d) = cause_number c == cause_number d
same_fate _ _ = false

abbrev pub waits : Fate → Bool
waits (Waiting l) = true
waits _ = false

abbrev pub was_sent : Fate → Bool
was_sent (Unacked l) = true
was_sent _ = false

abbrev pub was_acked : Fate → Bool
was_acked (Acked l) = true
was_acked _ = false

abbrev pub was_held : Fate → Bool
was_held (Held l) = true
was_held _ = false

abbrev pub is_parked : Fate → Bool
is_parked fate = same_fate fate Parked

abbrev pub stands_back : Fate → Bool
stands_back (Back c) = true
stands_back _ = false

abbrev pub was_discarded : Fate → Bool
was_discarded (Discarded cause) = true
was_discarded _ = false

-- not sent yet
abbrev pub is_unsent : Fate → Bool
is_unsent (Waiting l) = true
is_unsent (Held l) = true
is_unsent Parked = true
is_unsent (Back c) = true
is_unsent _ = false

-- one, if it is so
abbrev pub one_if : Bool → ℕ
one_if true = 1
one_if false = 0

-- where a message goes that is moved: it waits for this link, or is parked where there is none
abbrev pub fate_on : Option ℕ → Fate
fate_on (Some link) = Waiting link
fate_on None = Parked
