-- What holds of every run of flow control, in terms of its inputs alone.
use Rattle.std.specs.Prelude.{◌≡◌, ◌↔◌, Bool, true, false, IsTrue, List, ◌∷◌, ◌++◌}
use Rattle.std.specs.List.{list_any}
use Rattle.l2_flow.specs.declared.input.FlowIn.{FlowIn}
use Rattle.l2_flow.specs.declared.input.FlowIn.TheVariants.{Busy, Ease, HeardBusy, Acked, Sent, Paused, Resumed, Reset}
use Rattle.l2_flow.specs.Runs.{T5Runs, T6Runs, T7Runs, is_t6, is_t7, values_after}
use Rattle.l2_flow.specs.Since.{Since}

abbrev pub is_busy : FlowIn → Bool
is_busy Busy = true
is_busy _ = false

abbrev pub is_ease_or_reset : FlowIn → Bool
is_ease_or_reset Ease = true
is_ease_or_reset Reset = true
is_ease_or_reset _ = false

abbrev pub is_heard_busy : FlowIn → Bool
is_heard_busy HeardBusy = true
is_heard_busy _ = false

abbrev pub is_acked_or_reset : FlowIn → Bool
is_acked_or_reset (Acked _) = true
is_acked_or_reset Reset = true
is_acked_or_reset _ = false

abbrev pub is_sent : FlowIn → Bool
is_sent Sent = true
is_sent _ = false

abbrev pub is_reset : FlowIn → Bool
is_reset Reset = true
is_reset _ = false

-- an acknowledgement left messages unacknowledged, or some are so behind a processor outage
abbrev pub is_more : FlowIn → Bool
is_more (Acked more) = more
is_more (Resumed more) = more
is_more _ = false

-- a message was sent, or some are unacknowledged
abbrev pub begins_wait : FlowIn → Bool
begins_wait Sent = true
begins_wait (Acked more) = more
begins_wait (Resumed more) = more
begins_wait _ = false

-- an acknowledgement left none unacknowledged, an end has a processor outage, or all was reset
abbrev pub ends_wait : FlowIn → Bool
ends_wait (Acked true) = false
ends_wait (Acked false) = true
ends_wait Paused = true
ends_wait Reset = true
ends_wait _ = false

-- this end was told that it is busy, and neither of its ease nor of a reset since
abbrev pub IsBusy : List FlowIn → Type 0
IsBusy inputs = Since is_busy is_ease_or_reset inputs

-- B was heard, and neither an acknowledgement nor a reset came since
abbrev pub IsFarBusy : List FlowIn → Type 0
IsFarBusy inputs = Since is_heard_busy is_acked_or_reset inputs

-- messages are unacknowledged, by what was told, and no end has a processor outage
abbrev pub AwaitsAcknowledgement : List FlowIn → Type 0
AwaitsAcknowledgement inputs = Since begins_wait ends_wait inputs

-- a message was sent since the last reset
abbrev pub SentSinceReset : List FlowIn → Type 0
SentSinceReset inputs = Since is_sent is_reset inputs

-- an acknowledgement leaves messages unacknowledged, and some are so behind a processor outage, only where one was
-- sent since the last reset
abbrev pub MoreOnlyAfterSent : List FlowIn → Type 0
MoreOnlyAfterSent inputs =
    (before : List FlowIn) (input : FlowIn) (after : List FlowIn) → is_more input ≡ true →
    inputs ≡ before ++ input ∷ after → SentSinceReset before

-- each value says what the inputs have said
abbrev pub BusyIsTold : Type 0
BusyIsTold = (inputs : List FlowIn) → IsTrue (values_after inputs).busy ↔ IsBusy inputs

abbrev pub FarBusyIsTold : Type 0
FarBusyIsTold = (inputs : List FlowIn) → IsTrue (values_after inputs).far_busy ↔ IsFarBusy inputs

abbrev pub T7ValueIsTold : Type 0
T7ValueIsTold = (inputs : List FlowIn) → IsTrue (values_after inputs).t7_runs ↔ AwaitsAcknowledgement inputs

-- T5 runs exactly while this end is busy
abbrev pub T5RunsWhileBusy : Type 0
T5RunsWhileBusy = (inputs : List FlowIn) → T5Runs inputs ↔ IsBusy inputs

-- T6 runs only while the far end is busy
abbrev pub T6RunsOnlyWhileFarBusy : Type 0
T6RunsOnlyWhileFarBusy = (inputs : List FlowIn) → T6Runs inputs → IsFarBusy inputs

-- and it runs all that while, where it never ends
abbrev pub T6RunsWhileFarBusy : Type 0
T6RunsWhileFarBusy = (inputs : List FlowIn) → list_any is_t6 inputs ≡ false → IsFarBusy inputs → T6Runs inputs

-- T7 runs only while messages are unacknowledged and no end has a processor outage
abbrev pub T7RunsOnlyWhileAwaiting : Type 0
T7RunsOnlyWhileAwaiting = (inputs : List FlowIn) → T7Runs inputs → AwaitsAcknowledgement inputs

-- and it runs all that while, where it never ends
abbrev pub T7RunsWhileAwaiting : Type 0
T7RunsWhileAwaiting =
    (inputs : List FlowIn) → list_any is_t7 inputs ≡ false → AwaitsAcknowledgement inputs → T7Runs inputs

-- So T7 runs only after a message was sent since the last reset. The premise is needed: the table starts T7 at
-- every acknowledgement that leaves some, and behind every outage where some are told, though none was sent.
abbrev pub T7RunsOnlyAfterSent : Type 0
T7RunsOnlyAfterSent = (inputs : List FlowIn) → MoreOnlyAfterSent inputs → T7Runs inputs → SentSinceReset inputs
