use Rattle.std.proofs.Common.{◌∙◌, ap, sym, ◌+◌}
use Rattle.std.proofs.lemmas.List.{drop_all}
use Rattle.run_text.specs.Figures.{capped, taken_in}
use Rattle.run_text.proofs.Sums.{sum_ends}
use Rattle.run_text.proofs.figures.taken_in.Goals as goal

pub returns : goal.returns
returns c =
    let sum = c.loop-user.sum in
    sym (c.loop-user.invariant.0 ∙ ap (λ xs. capped (sum + taken_in xs)) (drop_all c.loop-user.user-index c.args.users.now c.loop-user-test.false) ∙ sum_ends sum c.loop-user.invariant.1)
