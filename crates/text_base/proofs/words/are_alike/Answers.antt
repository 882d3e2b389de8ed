use Rattle.std.proofs.Common.{arith, ◌≡◌, sym}
use Rattle.std.proofs.lemmas.Grind.{common_steps}
use Rattle.std.proofs.lemmas.Slice.Eq.{bytes_eq-Decides}
use Rattle.text_base.proofs.words.are_alike.Goals as goal

pub returns : goal.returns
returns c =
    let alike : c.args.word.now ≡ c.args.text.now = grind (arith, common_steps, c.loop-place.invariant, c.loop-place-test.false, c.requires) in
    sym ((bytes_eq-Decides c.args.word.now c.args.text.now).1 alike)
