use Rattle.pair_steps.proofs.Nesting.{found_told, read_there}
use Rattle.pair_steps.proofs.chain.ChainStretch.unit_ref.Goals as goal

-- src/chain.rt
pub returns-clause-value : goal.returns-clause-value
returns-clause-value g c =
    let units = g.S.HasUnits.units in
    let parts = c.self.inside.parts.items in
    let index = c.in_ok-index.index in
    let rest = c.in_ok-index.rest in
    let part = c.index.result.now in
    let found = rw c.deref.ensures.value at c.in_ok-index.ensures in
    rw (← c.self.view_is)
    (found_told units parts c.args.place index rest part c.unit_ref.result
    (read_there units parts c.args.place index rest part found c.index.ensures) c.unit_ref.ensures.value)
