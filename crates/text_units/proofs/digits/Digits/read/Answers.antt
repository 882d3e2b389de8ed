use Rattle.text_base.specs.declared.fault.Stop.TheVariants.{Memory}
use Rattle.text_base.proofs.PrintLemmas.{passed_on}
use Rattle.text_units.proofs.DigitLemmas.{halts_for_memory, decodes_on, halts_on_later}
use Rattle.text_units.proofs.digits.Digits.read.Goals as goal

pub returns-in_err-left : goal.returns-in_err-left
returns-in_err-left c =
    rw (passed_on c.from_residual.result Memory c.from_residual.ensures.1)
    (c.loop-left.invariant.halts Memory c.read_pairs.new.octets.items
    (halts_for_memory c.loop-left.self c.loop-left.left.now c.loop-left.octets.items c.read_pairs.new.octets.items c.in_err-left.ensures.reads))

pub loop-left-preserved : goal.loop-left-preserved
loop-left-preserved c =
    let l = c.loop-left in
    record {
      decodes = λ after new later.
          l.invariant.decodes after new
          (decodes_on l.self c.read_pairs.new.self c.take.new.self new l.left.now c.in_ok-left.left.now l.octets.items c.read_pairs.new.octets.items c.take.new.octets.items after
          c.in-len1-up.len_at_least c.in_ok-left.ensures.reads c.in_ok-take.ensures later);
      halts = λ stop after later.
          l.invariant.halts stop after
          (halts_on_later stop l.self c.read_pairs.new.self c.take.new.self l.left.now c.in_ok-left.left.now l.octets.items c.read_pairs.new.octets.items c.take.new.octets.items after
          c.in-len1-up.len_at_least c.in_ok-left.ensures.reads c.in_ok-take.ensures later);
    }
