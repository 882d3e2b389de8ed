-- The law of one link, of two ends that keep basic error control.
use Rattle.l2_window.specs.Link as link
use Rattle.l2_window.specs.Link.{Rules}
use Rattle.l2_basic.specs.Basic.{BasicState, start, choice_of, head_of, control_after, is_processed, part_of, control_heard}

abbrev pub rules : Rules BasicState
rules = record {
  expected = λ state. state.expected;
  choice = λ octets. choice_of;
  head = head_of;
  after = λ choice octets. control_after choice;
  is_processed = is_processed;
  part = part_of;
  heard = control_heard;
}

abbrev pub OneLink : Type 0
OneLink = link.OneLink rules start start
