use Rattle.l2_bits.specs.LineBits.{bits_of}
use Rattle.term_managed.proofs.CallLemmas.{broken_of, err_weaker, hears_of, ok_weaker}
use Rattle.term_managed.proofs.bench.ManagedBench.hear_octet.Goals as goal

pub returns-clause-hears : goal.returns-clause-hears
returns-clause-hears g c =
    let turned = c.in_ok-turn.ensures.turns in
    ok_weaker c.go_on.result _ _
    (λ heard went. (
      turned.0,
      hears_of c.args.link (bits_of 8 c.args.octet) c.args.self.now c.self.inside.bench c.hear_octet.new.self c.self.inside.kept.items
          c.in_ok-turn.turn heard turned.0 c.go_on.new.self c.self.view_is turned.1 went.0 went.1,
      turned.2,
    ))
    c.go_on.ensures.manages

pub returns-clause-breaks : goal.returns-clause-breaks
returns-clause-breaks g c =
    let turned = c.in_ok-turn.ensures.turns in
    err_weaker c.go_on.result _ _
    (λ fault broke. broken_of c.args.link (bits_of 8 c.args.octet) c.args.self.now c.self.inside.bench c.hear_octet.new.self
    c.self.inside.kept.items c.in_ok-turn.turn turned.0 fault c.go_on.new.self c.self.view_is turned.1 broke)
    c.go_on.ensures.breaks
