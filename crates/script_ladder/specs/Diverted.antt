-- WHICH MESSAGES ARE DIVERTED where a link settles: those that stood on it and wait for another link then, or are
-- parked where none is up (Q.704 5.5).
use Rattle.std.specs.Prelude.{ℕ, Bool, false, ◌||◌, List, [], ◌++◌, filter, Option, Some, None}
use Rattle.set_events.specs.declared.answer.Fate.{Fate}
use Rattle.set_events.specs.Places.{waits, is_parked}
use Rattle.set_model.specs.Rows.{Row, held, numbers, place, unack, wait}
use Rattle.set_model.specs.State.{State}

-- All messages that stand on a link: what was sent and isn't acknowledged, then what waits, then what is held, each in
-- the order of queueing.
abbrev pub stood_on : ℕ → State → List ℕ
stood_on link s = numbers (unack link s.rows) ++ (numbers (wait link s.rows) ++ numbers (held link s.rows))

-- on the link, if there is one to be told of
abbrev pub stood : Option ℕ → State → List ℕ
stood None s = []
stood (Some link) s = stood_on link s

abbrev pub waits_now : Option Fate → Bool
waits_now None = false
waits_now (Some fate) = waits fate || is_parked fate

-- all of those that wait now, or are parked; the others were acknowledged or discarded
abbrev pub diverted : List Row → List ℕ → List ℕ
diverted rows stood = filter (λ n. waits_now (place n rows)) stood
