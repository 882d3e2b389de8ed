-- What the sealed texts are.
use Rattle.std.proofs.Common.{◌≡◌, refl, ◌++◌}
use Rattle.l2_units.specs.declared.profile.Profile.{Profile}
use Rattle.set_events.specs.declared.answer.Counts.{Counts}
use Rattle.pair_steps.specs.declared.step.End.{End}
use Rattle.pair_steps.specs.declared.step.Shown.{Shown}
use Rattle.text_entries.specs.Texts.{shown_line, shown_text, end_text, link_counts, other_counts}

pub shown_is : (profile : Profile) (shown : Shown) → shown_text profile shown ≡ shown_line profile shown
unfolding shown_text
shown_is profile shown = refl

pub end_is : (end : End) (c : Counts) → end_text end c ≡ link_counts end c ++ other_counts c
unfolding end_text
end_is end c = refl
