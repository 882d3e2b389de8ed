use Rattle.std.proofs.Common.{arith, ap₂, sym, subst, ℕ, Bool}
use Rattle.set_model.specs.History.{IsLegal}
use Rattle.run_text.proofs.Placing.{end_facts}
use Rattle.run_text.proofs.summing.add_up_end.Goals as goal

-- src/summing.rt
pub placed-requires : goal.placed-requires
placed-requires c =
    let facts = end_facts c.args.end.now c.requires.end in
    record { few = omega (arith, facts.placed_all, facts.few) }

pub returns-clause-totals : goal.returns-clause-totals
returns-clause-totals c =
    let facts = end_facts c.args.end.now c.requires.end in
    let legal = subst (IsLegal c.args.end.now.closed.base.state) (sym c.reader.ensures) facts.legal in
    ap₂ (λ (places : ℕ) (is_legal : Bool). record { accepted = c.args.end.now.closed.books.messages; placed = places; legal = is_legal })
    c.placed.ensures (c.in-Ok.ensures.legal.1 legal)

pub returns-clause-small : goal.returns-clause-small
returns-clause-small c =
    let facts = end_facts c.args.end.now c.requires.end in
    (facts.few, omega (arith, c.placed.ensures, facts.placed_all, facts.few))
