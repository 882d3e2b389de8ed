-- What a checkpoint forgets, as counts.
use Rattle.std.specs.Prelude.{◌+◌}
use Rattle.set_model.specs.State.{FinishedCounts}

-- of those that left before and those that leave now
abbrev pub together : FinishedCounts → FinishedCounts → FinishedCounts
together before now = record {
  acked = before.acked + now.acked;
  emergency = before.emergency + now.emergency;
  unreasonable = before.unreasonable + now.unreasonable;
  no_answer = before.no_answer + now.no_answer;
  orders = before.orders + now.orders;
}
