-- How both ends stand.
use Rattle.std.proofs.Common.{refl, ◌≡◌, ℕ, List, ◌++◌}
use Rattle.pair_steps.specs.declared.step.End.TheVariants.{A, B}
use Rattle.pair_model.specs.World.{World, counts_at}
use Rattle.text_entries.specs.Texts.{end_text}
use Rattle.script_accounts.specs.PlayText.{ends_text}

-- both ends are told
pub both_ends : (p : World) (a b whole : List ℕ) → a ≡ end_text A (counts_at p A) → b ≡ end_text B (counts_at p B)
    → whole ≡ a ++ b → whole ≡ ends_text p
unfolding ends_text
both_ends p a b whole e f g = rw (g, e, f) refl
