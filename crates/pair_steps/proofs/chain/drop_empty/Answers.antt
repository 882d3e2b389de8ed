use Rattle.std.proofs.Common.{◌∙◌, arith, ap, refl, length}
use Rattle.std.proofs.lemmas.Option.{slice_get_read}
use Rattle.pair_steps.specs.Nests.{joined}
use Rattle.pair_steps.proofs.Nesting.{empty_out, no_units_there}
use Rattle.pair_steps.proofs.chain.drop_empty.Goals as goal

-- src/chain.rt
pub returns-then-len-eq0 : goal.returns-then-len-eq0
returns-then-len-eq0 g c =
    let units = g.S.HasUnits.units in
    let parts = c.args.parts.now.items in
    let part = c.index.result.now in
    let there = slice_get_read parts (length parts) c.args.index part refl c.requires c.index.ensures in
    ap (joined units) c.remove.ensures.items
    ∙ empty_out units parts c.args.index part there (no_units_there (units part) (omega (arith, c.len-then-index-len.ensures, c.if-len-eq0.true)))
