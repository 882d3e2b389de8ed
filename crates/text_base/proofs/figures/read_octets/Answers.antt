use Rattle.std.proofs.Common.{sym, arith, refl}
use Rattle.text_base.proofs.FigureLemmas.{odd_digits, octet_begin, octet_stop, octet_step, octet_end}
use Rattle.text_base.proofs.figures.read_octets.Goals as goal

pub returns-then-word-eq1 : goal.returns-then-word-eq1
returns-then-word-eq1 c = sym (odd_digits c.args.word.now c.if-word-eq1.true)

pub loop-place-init : goal.loop-place-init
loop-place-init c = rw c.new-octets.ensures.items (octet_begin c.args.word.now)

pub returns-in-None : goal.returns-in-None
returns-in-None c =
    octet_stop c.args.word.now c.loop-place.octets.items c.loop-place.place _ _ (omega arith) refl refl c.in-None.ensures c.loop-place.invariant

pub loop-place-preserved : goal.loop-place-preserved
loop-place-preserved c =
    rw c.in_ok-push-in-Some.ensures.items
    (octet_step c.args.word.now c.loop-place.octets.items c.loop-place.place _ _ c.in-Some.octet (omega arith) refl refl c.in-Some.ensures c.loop-place.invariant)

pub returns : goal.returns
returns c =
    octet_end c.args.word.now c.loop-place.octets.items c.loop-place.place (omega arith) c.loop-place.invariant
