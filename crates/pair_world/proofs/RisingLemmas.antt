-- WHAT A TERMINAL SENDS BEFORE ITS LINK IS UP at the set: the numbers of its FISU are those before 0 (`idle_is`), by the
-- profile that the set was opened with (`settings_stay`), which no event of its history changes. Case by case, and by
-- induction over a history. Used by World::profile and the function idle_head (src/rising.rt).
use Rattle.std.proofs.Common.{refl, ap, ◌≡◌, ◌∙◌, ◌-◌, true, List, [], ◌∷◌}
use Rattle.l2_units.specs.Profile.{fsn_count}
use Rattle.l2_units.specs.declared.profile.Profile.{Profile}
use Rattle.l2_units.specs.declared.profile.Profile.TheVariants.{Narrow, Wide}
use Rattle.l2_units.specs.declared.unit.Header.{Header}
use Rattle.l2_units.specs.declared.unit.Unit.{Unit as SignalUnit}
use Rattle.l2_units.proofs.Texts.{same_header}
use Rattle.set_events.specs.declared.config.Method.{Method}
use Rattle.set_events.specs.declared.config.Method.TheVariants.{Basic, Cyclic}
use Rattle.set_events.specs.declared.history.Entry.{Entry}
use Rattle.set_model.specs.Control.{start_of, head_of, fsn_of, fill}
use Rattle.set_model.specs.History.{after}
use Rattle.set_model.specs.State.{State}
use Rattle.set_model.specs.Step.{step}
use Rattle.set_model.proofs.Staying.{step_grows}
use Rattle.pair_rises.specs.Rises.{first_window, idle_unit}

abbrev idle_head : Profile → Method → Header
idle_head profile method = head_of (start_of method) (first_window profile) (fsn_of fill (first_window profile))

pub idle_is : (profile : Profile) (method : Method) (head : Header)
    → head.bsn ≡ fsn_count profile - 1 → head.bib ≡ true → head.fsn ≡ fsn_count profile - 1 → head.fib ≡ true
    → SignalUnit.Fisu head ≡ idle_unit profile method
idle_is profile method head bsn bib fsn fib = ap SignalUnit.Fisu (by profile method bsn fsn)
  where
    by : (profile : Profile) (method : Method) → head.bsn ≡ fsn_count profile - 1 → head.fsn ≡ fsn_count profile - 1
        → head ≡ idle_head profile method
    by Narrow Basic bsn fsn = same_header head (idle_head Narrow Basic) bsn bib fsn fib
    by Narrow (Cyclic n1 n2) bsn fsn = same_header head (idle_head Narrow (Cyclic n1 n2)) bsn bib fsn fib
    by Wide Basic bsn fsn = same_header head (idle_head Wide Basic) bsn bib fsn fib
    by Wide (Cyclic n1 n2) bsn fsn = same_header head (idle_head Wide (Cyclic n1 n2)) bsn bib fsn fib

pub settings_stay : (s : State) (history : List Entry) → (after s history).settings ≡ s.settings
settings_stay s [] = refl
settings_stay s (entry ∷ entries) = settings_stay (step s entry.event).state entries ∙ (step_grows s entry.event).settings_same
