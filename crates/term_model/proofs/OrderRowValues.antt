-- The worked rows where order matters, by computation.
use Rattle.std.proofs.Common.{refl}
use Rattle.l2_bits.specs.Flags.{flag}
use Rattle.term_model.specs.OrderRows.{TimerRows, HeardRows, OutageRows, SentRows}

pub timer_rows : TimerRows
timer_rows = record {
  short_t2 = (_, refl, (refl, refl, refl));
  t6_and_t7 = (_, (refl, refl), (refl, refl, refl));
  start_and_stop = (_, refl, (refl, refl, refl));
  sios_while_proving = (_, refl, (refl, refl, refl));
}

pub heard_rows : HeardRows
heard_rows = record {
  left_by_itself = (_, (refl, refl), (refl, refl, refl));
  pause_and_end = (_, (refl, (refl, refl)), (refl, refl));
  outage_while_awaiting = (_, (refl, refl), (refl, refl, refl));
  outage_and_no_ack = (_, (refl, (refl, refl)), (refl, refl));
  outage_and_last_ack = (_, (refl, (refl, refl)), (refl, refl));
  last_acked = (_, (refl, refl), (refl, refl, refl));
  one_acked = (_, (refl, refl), (refl, refl, refl));
}

pub outage_rows : OutageRows
outage_rows = record {
  begins_in_service = (_, refl, (refl, refl, refl, refl));
  set_hears_nothing = (_, refl, (refl, refl, refl));
  no_b_is_heard = (_, refl, (refl, refl));
  ends = (_, refl, (refl, refl, refl));
  ends_before_the_other = (_, refl, (refl, refl));
  ends_behind_the_other = (_, refl, (refl, refl));
  aligned_not_ready = (_, refl, refl);
  comes_up_in_it = (_, (refl, refl), (refl, refl, refl));
  ready_too_long = (_, refl, (refl, refl, refl));
  stopped_in_it = (_, (refl, refl), (refl, refl, refl));
}

pub sent_rows : SentRows
unfolding flag
sent_rows = record {
  refused_again = (_, (refl, refl), (refl, refl, refl));
  done_at_last = (_, (refl, refl), (refl, refl, refl));
  withholds = (_, (refl, refl), (refl, refl, refl));
  next_refused = (_, (refl, refl), (refl, refl, refl));
  not_sent = (_, (refl, refl), (refl, refl, refl));
  enough_left = (_, refl, refl);
}
