-- What an order does to its timer.
use Rattle.std.specs.Prelude.{Bool, true, false}
use Rattle.l2_units.specs.declared.timer.TimerOrder.{TimerOrder}

-- the timer starts, anew if it runs
abbrev pub is_start : TimerOrder → Bool
is_start TimerOrder.Keep = false
is_start TimerOrder.Start = true
is_start (TimerOrder.StartFor octet_times) = true
is_start TimerOrder.Stop = false

-- the timer stops
abbrev pub is_stop : TimerOrder → Bool
is_stop TimerOrder.Keep = false
is_stop TimerOrder.Start = false
is_stop (TimerOrder.StartFor octet_times) = false
is_stop TimerOrder.Stop = true
