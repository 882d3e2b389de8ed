use Rattle.std.proofs.Common.{◌≡◌, ℕ, ◌≤◌, ◌<◌, ◌++◌, Bool, true, false, [], ◌∷◌, refl, arith}
use Rattle.l2_bits.specs.LineBits.{bits_of}
use Rattle.l2_bits.specs.Flags.{flag}
use Rattle.l2_bits.proofs.RunLemmas.{run_of, run_is_since, run_there, run_not_there}
use Rattle.l2_bits.proofs.DeframingLemmas.{content_lost, content_same, content_more, plain_single}
use Rattle.l2_bits.proofs.deframing.keep.Goals as goal

pub returns-then-before-ge-SIX_ONES : goal.returns-then-before-ge-SIX_ONES
returns-then-before-ge-SIX_ONES c = λ past since ends goes has.
    let run = run_is_since past since goes.is_since in
    let six : 6 ≤ run_of 0 (flag ++ past) = run_there (flag ++ past) 2 6 c.args.before ends (omega arith) in
    rw c.lose.ensures (content_lost past since c.args.bit c.args.content.now goes (omega (arith, run, six)) has)

pub returns-then-before-ge-FIVE_ONES : goal.returns-then-before-ge-FIVE_ONES
returns-then-before-ge-FIVE_ONES c = λ past since ends goes has.
    let run = run_is_since past since goes.is_since in
    let five : 5 ≤ run_of 0 (flag ++ past) = run_there (flag ++ past) 3 5 c.args.before ends (omega arith) in
    let few : run_of 0 (flag ++ past) < 6 = run_not_there (flag ++ past) 2 6 c.args.before ends (omega arith) (λ is. omega (arith, is)) in
    content_same since c.args.bit c.args.content.now (omega (arith, run, five, few)) has

bit_of : (bit : Bool) (n : ℕ) → n ≡ mir.Val.bool_byte bit → bits_of 1 n ≡ bit ∷ []
unfolding bits_of
bit_of true n is = rw is refl
bit_of false n is = rw is refl

pub returns : goal.returns
returns c = λ past since ends goes has.
    let run = run_is_since past since goes.is_since in
    let few : run_of 0 (flag ++ past) < 5 = run_not_there (flag ++ past) 3 5 c.args.before ends (omega arith) (λ is. omega (arith, is)) in
    content_more since (c.args.bit ∷ []) c.args.content.now c.add.new.self (plain_single since c.args.bit (omega (arith, run, few))) has
    c.add.ensures.lost (rw (bit_of c.args.bit c.from.result c.from.ensures) at (c.add.ensures.holds has.bits has.holds))
