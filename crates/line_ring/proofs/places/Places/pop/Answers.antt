use Rattle.std.proofs.Common.{rules, ◌<◌, drop, slice_get, sym, ap, ◌∙◌, arith}
use Rattle.std.proofs.lemmas.Bool.Decides.{nat_tests}
use Rattle.line_ring.specs.Places.{octets_from}
use Rattle.line_ring.proofs.Rounds.{octets_from-none, octets_from-pop}
use Rattle.line_ring.proofs.places.Places.pop.Goals as goal

pub returns-then-self-eq0-clause-value : goal.returns-then-self-eq0-clause-value
returns-then-self-eq0-clause-value c =
    let p = c.self.inside in
    let empty = sym c.self.view_is ∙ ap (λ n. octets_from p.first n p.octets) c.if-self-eq0.true
    ∙ octets_from-none p.first p.octets in
    sym (ap (λ xs. slice_get xs 0) empty)

pub returns-then-self-eq0-clause-rest : goal.returns-then-self-eq0-clause-rest
returns-then-self-eq0-clause-rest c =
    let p = c.self.inside in
    let empty = sym c.self.view_is ∙ ap (λ n. octets_from p.first n p.octets) c.if-self-eq0.true
    ∙ octets_from-none p.first p.octets in
    empty ∙ sym (ap (λ xs. drop 1 xs) empty)

pub returns-clause-value : goal.returns-clause-value
returns-clause-value c =
    let p = c.self.inside in
    let some : 0 < p.len = grind (arith, nat_tests, c.if-self-eq0.false) in
    let split = octets_from-pop p.first p.len p.octets c.self.invariant.0 (search rules) some c.self.invariant.1 in
    ap (λ xs. slice_get xs 0) (sym split ∙ c.self.view_is)

pub returns-clause-rest : goal.returns-clause-rest
returns-clause-rest c =
    let p = c.self.inside in
    let some : 0 < p.len = grind (arith, nat_tests, c.if-self-eq0.false) in
    let split = octets_from-pop p.first p.len p.octets c.self.invariant.0 (search rules) some c.self.invariant.1 in
    ap (λ xs. drop 1 xs) (sym split ∙ c.self.view_is)
