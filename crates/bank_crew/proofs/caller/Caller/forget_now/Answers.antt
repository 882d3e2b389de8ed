use Rattle.std.proofs.Common.{◌∙◌, ap, [], ◌∷◌, ◌++◌}
use Rattle.bank_crew.specs.declared.caller.Forgetting.{Forgetting}
use Rattle.bank_crew.proofs.Asking.{all_stay, so_many}
use Rattle.bank_crew.proofs.caller.Caller.forget_now.Goals as goal

-- src/caller.rt
pub invariant_of-self-2 : goal.invariant_of-self-2
invariant_of-self-2 g c =
    let more : Forgetting g.row.S.Denot = record { before = c.of-before.result; after = c.of-after.result } in
    so_many g.S.Step.state c.self.inside.forgettings.items c.push_reserved.new.self.items more c.self.inside.seat c.forget.new.seat _ c.in_ok-forget.ensures.behind
    (c.push_reserved.ensures.items ∙ ap (λ items. items ++ more ∷ []) c.reserve.ensures.items) c.of-before.ensures c.of-after.ensures c.self.invariant

pub returns-clause-all : goal.returns-clause-all
returns-clause-all g c =
    let more : Forgetting g.row.S.Denot = record { before = c.of-before.result; after = c.of-after.result } in
    all_stay g.S.Step.state c.self.inside.forgettings.items c.push_reserved.new.self.items more c.self.inside.seat c.forget.new.seat _ c.in_ok-forget.ensures.behind
    (c.push_reserved.ensures.items ∙ ap (λ items. items ++ more ∷ []) c.reserve.ensures.items) c.of-before.ensures c.of-after.ensures ∙ ap (λ it. it.all) c.self.view_is
