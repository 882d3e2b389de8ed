use Rattle.std.proofs.Common.{◌∙◌, rules, tests}
use Rattle.std.proofs.lemmas.Iterator.{YieldsList-from_slice}
use Rattle.std.proofs.lemmas.Iterator.Search.{any_from_yields_List}
use Rattle.set_route.specs.Routing.{is_away}
use Rattle.set_route.proofs.Away.{any_away}
use Rattle.set_route.proofs.routes.has_away.Goals as goal

pub returns : goal.returns
returns c =
    any_from_yields_List (is_away c.args.home c.args.alternative) _ _ _ c.any.ensures.ran (YieldsList-from_slice c.args.streams.now cc) (λ x b q k. search (rules, tests))
    ∙ any_away c.args.home c.args.alternative c.args.streams.now
