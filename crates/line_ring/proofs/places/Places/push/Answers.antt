use Rattle.std.proofs.Common.{rules, ◌<◌, ◌++◌, ◌∷◌, [], List, ℕ, length, sym, ap, ◌∙◌, arith}
use Rattle.line_ring.proofs.Rounds.{length-octets_from, octets_from-push}
use Rattle.line_ring.proofs.places.Places.push.Goals as goal

pub invariant_of-self : goal.invariant_of-self
invariant_of-self c =
    let p = c.self.inside in
    let size = length-octets_from p.first p.len p.octets c.self.invariant.0 c.self.invariant.1 (search rules) in
    (c.self.invariant.0, omega (arith, c.requires, sym size ∙ ap length c.self.view_is))

pub returns : goal.returns
returns c =
    let p = c.self.inside in
    let size = length-octets_from p.first p.len p.octets c.self.invariant.0 c.self.invariant.1 (search rules) in
    let room : p.len < 4096 = omega (arith, c.requires, sym size ∙ ap length c.self.view_is) in
    octets_from-push p.first p.len p.octets c.self.invariant.0 (search rules) c.args.octet room
    ∙ ap (λ (xs : List ℕ). xs ++ c.args.octet ∷ []) c.self.view_is
