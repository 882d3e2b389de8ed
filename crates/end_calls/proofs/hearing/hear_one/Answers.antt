use Rattle.std.proofs.Common.{◌∙◌, ap}
use Rattle.end_calls.specs.Hearing.{brings}
use Rattle.term_bench.specs.declared.turn.Turn.{Turn}
use Rattle.end_calls.proofs.hearing.hear_one.Goals as goal

pub returns-in-Ok-clause-hears : goal.returns-in-Ok-clause-hears
returns-in-Ok-clause-hears c =
    let so = c.in-Ok.ensures.hears in (
      record { turn = c.in-Ok.managed; unit = so.0 },
      so.1,
      ap (λ (t : Turn). t.put) c.turn.ensures,
      c.brought.ensures.value ∙ ap (λ (t : Turn). brings t) c.turn-in-Ok.ensures,
      so.2,
    )
