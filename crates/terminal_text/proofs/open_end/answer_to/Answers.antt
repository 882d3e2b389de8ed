use Rattle.std.proofs.Common.{arith, ◌≡◌, ◌∙◌, ◌++◌, ap, List, ℕ, length, true}
use Rattle.terminal_text.specs.Answers.{is_below, link_in}
use Rattle.terminal_text.proofs.OpenLemmas.{asked_done}
use Rattle.terminal_text.proofs.open_end.answer_to.Goals as goal

pub returns-in_ok-extend_from_slice-in-Ok-clause-carried : goal.returns-in_ok-extend_from_slice-in-Ok-clause-carried
returns-in_ok-extend_from_slice-in-Ok-clause-carried c =
    let links = length c.args.bench.now.managed.bench.links in
    let there : is_below links (link_in c.args.asked.now) ≡ true =
    grind (arith, c.is_there.ensures, c.if-not-is_there.false, c.links.ensures.links, c.bench.ensures.bench, c.link_of.ensures) in
    asked_done (is_below links (link_in c.args.asked.now)) c.args.number c.args.asked.now c.args.bench.now c.ask_bench.new.bench c.args.out.now.items
    c.extend_from_slice.new.self.items c.in-Ok.printed.items there
    (c.in_ok-extend_from_slice-in-Ok.ensures.items ∙ ap (λ (xs : List ℕ). c.args.out.now.items ++ xs) c.deref.ensures.value) c.in-Ok.ensures
