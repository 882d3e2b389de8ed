use Rattle.std.proofs.Common.{refl}
use Rattle.pair_octets.proofs.ends.take_turn.Goals as goal

pub returns-in_ok-join-in-Ok-clause-turns : goal.returns-in_ok-join-in-Ok-clause-turns
returns-in_ok-join-in-Ok-clause-turns c far =
    let front = c.in-Some.ensures.front in
    let joins = c.in_ok-join-in-Ok.ensures.ok in
    let turns = c.in-Ok.ensures.turns in (
      record {
        octet = c.in-Some.octet;
        rest = front.0;
        on = joins.0;
        turn = c.in-Ok.turn;
        unit = turns.0;
        comes = front.1;
        goes = joins.1;
        turns = turns.1;
        to_near_is = front.2;
        to_far_is = joins.2;
        far_is = refl;
      },
      refl,
    )

pub returns-in-Err-clause-fails : goal.returns-in-Err-clause-fails
returns-in-Err-clause-fails c far =
    let front = c.in-Some.ensures.front in
    record { octet = c.in-Some.octet; rest = front.0; bench = c.turn_tapped.new.self; comes = front.1; breaks = c.in-Err.ensures.breaks }
