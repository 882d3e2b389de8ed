-- The law of one link, of two ends that keep preventive cyclic retransmission.
use Rattle.std.specs.Prelude.{ℕ}
use Rattle.l2_window.specs.Link as link
use Rattle.l2_window.specs.Link.{Rules}
use Rattle.l2_pcr.specs.Pcr.{PcrState, start, choice_of, head_of, control_after, is_processed, part_of, control_heard}

abbrev pub rules : Rules PcrState
rules = record {
  expected = λ state. state.expected;
  choice = choice_of;
  head = head_of;
  after = control_after;
  is_processed = λ state. is_processed;
  part = part_of;
  heard = control_heard;
}

-- whatever the limits of each end
abbrev pub OneLink : Type 0
OneLink = (n1 n2 far_n1 far_n2 : ℕ) → link.OneLink rules (start n1 n2) (start far_n1 far_n2)
