use Rattle.std.proofs.Common.{rules, length, nat_eq, sym, ap, ◌∙◌, arith}
use Rattle.line_ring.proofs.Rounds.{length-octets_from}
use Rattle.line_ring.proofs.places.Places.is_full.Goals as goal

pub returns-clause-full : goal.returns-clause-full
returns-clause-full c =
    let p = c.self.inside in
    let size = length-octets_from p.first p.len p.octets c.self.invariant.0 c.self.invariant.1 (search rules) in
    ap (λ n. nat_eq n 4096) (sym size ∙ ap length c.self.view_is)

pub returns-clause-within : goal.returns-clause-within
returns-clause-within c =
    let p = c.self.inside in
    let size = length-octets_from p.first p.len p.octets c.self.invariant.0 c.self.invariant.1 (search rules) in
    omega (arith, c.self.invariant.1, sym size ∙ ap length c.self.view_is)
