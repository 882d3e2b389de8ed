use Rattle.std.proofs.Common.{ℕ, ◌∙◌, sym, subst, Bool, Option, rules, tests}
use Rattle.std.proofs.lemmas.Iterator.{YieldsList-from_slice}
use Rattle.std.proofs.lemmas.Iterator.Search.{position_from_yields_List}
use Rattle.set_route.specs.Target.{IsTarget}
use Rattle.set_route.proofs.Lowest.{target_at, target_is}
use Rattle.set_route.proofs.target_link.first_up.Goals as goal

pub returns-clause-value : goal.returns-clause-value
returns-clause-value c =
    position_from_yields_List (λ (is_up : Bool). is_up) _ _ _ c.position.ensures.ran (YieldsList-from_slice c.args.up.now cc) (λ x b q k. search (rules, tests))
    ∙ target_at c.args.up.now

pub returns-clause-lowest : goal.returns-clause-lowest
returns-clause-lowest c = subst (λ (t : Option ℕ). IsTarget c.args.up.now t) (sym (returns-clause-value c)) (target_is c.args.up.now)
