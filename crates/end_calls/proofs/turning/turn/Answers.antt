use Rattle.std.proofs.Common.{refl}
use Rattle.end_calls.specs.Turning.{broken}
use Rattle.end_calls.proofs.TurningLemmas.{turned_told}
use Rattle.end_calls.proofs.turning.turn.Goals as goal

pub returns-in-Err-clause-turns : goal.returns-in-Err-clause-turns
returns-in-Err-clause-turns c = broken c.in-Err.fault c.of_term.ensures c.in-Err.ensures.breaks refl refl

pub returns-clause-turns : goal.returns-clause-turns
returns-clause-turns c =
    turned_told c.args.link c.args.octet c.args.room.now c.put_unit.new.room c.args.turned.now c.args.end.now c.hear_one.new.end
    c.new-tap.result c.hear_one.new.tap _ c.put_unit.result c.in-Ok.passed.put c.in-Ok.passed.message c.new-tap.ensures c.unit.ensures
    c.in-Ok.ensures.hears c.put_unit.ensures.value c.put_unit.ensures.room
