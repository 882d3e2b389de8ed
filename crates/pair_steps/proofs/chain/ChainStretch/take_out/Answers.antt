use Rattle.std.proofs.Common.{◌<◌, length, arith}
use Rattle.std.proofs.lemmas.List.{length-set}
use Rattle.std.proofs.lemmas.Option.{slice_get_within}
use Rattle.pair_steps.specs.Nests.{joined}
use Rattle.pair_steps.proofs.Nesting.{left_of, one_left}
use Rattle.pair_steps.proofs.chain.ChainStretch.take_out.Goals as goal

-- src/chain.rt
pub overflow_sub-self : goal.overflow_sub-self
overflow_sub-self g c =
    let units = g.S.HasUnits.units in
    let parts = c.self.inside.parts.items in
    let found = rw c.deref.ensures.value at c.in_ok-index.ensures in
    let left = one_left units parts c.args.place c.in_ok-index.index c.in_ok-index.rest found.0 found.1 in
    omega (arith, left, c.self.invariant)

-- src/chain.rt
pub drop_empty-requires : goal.drop_empty-requires
drop_empty-requires g c =
    let parts = c.self.inside.parts.items in
    let index = c.in_ok-index.index in
    let found = rw c.deref.ensures.value at c.in_ok-index.ensures in
    let within : index < length parts = slice_get_within parts index found.0 found.1.there in
    rw length-set within

-- src/chain.rt
pub invariant_of-self-2 : goal.invariant_of-self-2
invariant_of-self-2 g c =
    let units = g.S.HasUnits.units in
    let parts = c.self.inside.parts.items in
    let found = rw c.deref.ensures.value at c.in_ok-index.ensures in
    let taken = c.in_ok-unit.ensures in
    let left = left_of units parts c.args.place c.in_ok-index.index c.in_ok-index.rest c.index_mut.result.now c.take_out.new.self c.in_ok-unit.unit
    (joined units c.drop_empty.new.parts.items) found c.index_mut.ensures.value taken.0 taken.1 c.drop_empty.ensures in
    omega (arith, left.count, c.self.invariant)

-- src/chain.rt
pub returns : goal.returns
returns g c =
    let units = g.S.HasUnits.units in
    let parts = c.self.inside.parts.items in
    let found = rw c.deref.ensures.value at c.in_ok-index.ensures in
    let taken = c.in_ok-unit.ensures in
    let left = left_of units parts c.args.place c.in_ok-index.index c.in_ok-index.rest c.index_mut.result.now c.take_out.new.self c.in_ok-unit.unit
    (joined units c.drop_empty.new.parts.items) found c.index_mut.ensures.value taken.0 taken.1 c.drop_empty.ensures in
    rw (← c.self.view_is) (left.there, left.fewer)
