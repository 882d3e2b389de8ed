use Rattle.std.proofs.Common.{◌≡◌, ◌∙◌, ◌-◌, ◌<◌, ◌++◌, [], ◌∷◌, suc, List, arith, ap, refl, length}
use Rattle.std.proofs.lemmas.Option.{slice_get_read}
use Rattle.std.proofs.lemmas.Result.{on_ok_weaker, on_err_weaker}
use Rattle.l2_units.specs.Lent.{unit_in}
use Rattle.l2_units.specs.declared.unit.Unit.{Unit as SignalUnit}
use Rattle.pair_steps.proofs.Nesting.{last_joined, same_set}
use Rattle.pair_steps.proofs.chain.join_last.Goals as goal

-- src/chain.rt
pub returns-clause-ok : goal.returns-clause-ok
returns-clause-ok g c =
    let units = g.S.HasUnits.units in
    let parts = c.make_room.new.parts.items in
    let last = c.len-last.result - 1 in
    let part = c.index_mut.result.now in
    let more = unit_in c.args.unit.now ∷ [] in
    let within : last < length parts = omega (arith, c.in_ok-make_room.ensures.some, c.len-last.ensures) in
    let end : suc last ≡ length parts = omega (arith, c.in_ok-make_room.ensures.some, c.len-last.ensures) in
    let there = slice_get_read parts (length parts) last part refl within c.index_mut.ensures.value in
    on_ok_weaker c.join.result
    (λ is. last_joined units parts last part c.join.new.self more there end is
    ∙ ap (λ (these : List SignalUnit). these ++ more) c.in_ok-make_room.ensures.same)
    c.join.ensures.ok

-- src/chain.rt
pub returns-clause-err : goal.returns-clause-err
returns-clause-err g c =
    let units = g.S.HasUnits.units in
    let parts = c.make_room.new.parts.items in
    let last = c.len-last.result - 1 in
    let part = c.index_mut.result.now in
    let within : last < length parts = omega (arith, c.in_ok-make_room.ensures.some, c.len-last.ensures) in
    let there = slice_get_read parts (length parts) last part refl within c.index_mut.ensures.value in
    on_err_weaker c.join.result
    (λ is. same_set units parts last part c.join.new.self there is ∙ c.in_ok-make_room.ensures.same)
    c.join.ensures.err
