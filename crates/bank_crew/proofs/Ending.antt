-- What a set that was closed came to.
use Rattle.std.proofs.Common.{refl, ◌≡◌, ◌∙◌, sym, subst, List}
use Rattle.set_events.specs.declared.config.SetConfig.{SetConfig}
use Rattle.set_ledger.specs.declared.ending.Closed.{Closed}
use Rattle.set_ledger.specs.Ending.{IsClosed, checkpoints_by}
use Rattle.set_ledger.specs.Seats.{SeatState}
use Rattle.set_ledger.specs.Openings.{IsBaseBehind, IsBaseOf}
use Rattle.set_model.specs.State.{Settings, settings_of}
use Rattle.bank_crew.specs.Ends.{IsClosedAs}
use Rattle.bank_crew.proofs.Configs.{same_config}

-- a set of the settings of this configuration
pub closed_as : (users terminals : List SeatState) (closed : Closed) (config : SetConfig) (settings : Settings)
    → IsClosed users terminals closed.base closed.history.items closed.books closed.counts → IsBaseBehind settings (checkpoints_by users terminals) closed.base
    → settings_of closed.config ≡ settings → settings_of config ≡ settings → IsClosedAs config closed
closed_as users terminals closed config settings is opened theirs its =
    let same : closed.config ≡ config = same_config closed.config config (theirs ∙ sym its) in
    subst (λ (it : SetConfig). IsClosedAs it closed) same
    (record { config_is = refl; base_of = subst (λ (s : Settings). IsBaseOf s closed.base) (sym theirs) opened.is_base; legal = is.legal; books_are = is.books_are; counts_are = is.counts_are; placed = is.placed; few = is.few })
