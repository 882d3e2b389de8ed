use Rattle.std.proofs.Common.{◌∙◌, ap, sym}
use Rattle.set_model.specs.History.{LinkSet}
use Rattle.set_model.specs.State.{Settings, State}
use Rattle.pair_world.proofs.RisingLemmas.{settings_stay}
use Rattle.pair_world.proofs.world.World.profile.Goals as goal

pub returns : goal.returns
returns g c =
    let set = c.core-set.result.now in
    c.profile.ensures ∙ ap (λ (settings : Settings). settings.profile) c.config.ensures
    ∙ ap (λ (settings : Settings). settings.profile) (sym (settings_stay set.base.state set.history))
    ∙ ap (λ (s : State). s.settings.profile) (sym c.replays.ensures.agrees)
    ∙ ap (λ (at : LinkSet). at.state.settings.profile) c.core-set.ensures
