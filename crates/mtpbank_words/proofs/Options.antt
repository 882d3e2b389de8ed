-- The options of a command, one after the other, and a run whose link is looked at.
use Rattle.std.proofs.Common.{refl, ◌≡◌, ◌∙◌, ap, ap₂, ◌<◌, ◌↔◌, IsTrue, Bool, true, false, ℕ, List, [], ◌∷◌, ◌++◌, Result, Ok, Err, IfSome}
use Rattle.std.specs.Prelude.{MatchResult}
use Rattle.std.proofs.lemmas.List.{append_assoc}
use Rattle.clap.specs.Words.{Shape, Row, Rule}
use Rattle.mtpbank_words.specs.declared.run_words.RunWords.{RunWords}
use Rattle.mtpbank_words.specs.declared.run_words.Unasked.{Unasked}
use Rattle.mtpbank_words.specs.declared.run_words.Unasked.TheVariants.{Link, Value}
use Rattle.mtpbank_words.specs.RunOptions.{AreValues, IsRun, IsUnasked, IsWithout, with_rules}

-- one option more, behind these of a command
pub one_more : (old new base : Shape) (rules : List Rule) (rule its : Rule) → old ≡ with_rules base rules
    → new ≡ with_rules old (rule ∷ []) → rule ≡ its → new ≡ with_rules base (rules ++ its ∷ [])
one_more old new base rules rule its before added same =
    added ∙ (ap₂ (λ (s : Shape) (r : Rule). with_rules s (r ∷ [])) before same
    ∙ ap (λ (all : List Rule). record base { rules = all }) (append_assoc base.rules rules (its ∷ [])))

without : (run : RunWords) (rows : List Row) (why : Unasked) → AreValues run rows → IsWithout run why → IsUnasked why rows
without run rows (Value said) values is = absurd is
without run rows (Link fail links) values is = (run, values, is)

-- the link that is to fail is one of the links, or it's told that it isn't
pub looked_at : (run : RunWords) (rows : List Row) (result : Result RunWords Unasked) → AreValues run rows
    → MatchResult result (λ (same : RunWords). (same ≡ run) × IfSome run.fail (λ (link : ℕ). link < run.links))
    (IsWithout run)
    → MatchResult result (λ (it : RunWords). IsRun it rows) (λ (why : Unasked). IsUnasked why rows)
looked_at run rows (Ok same) values is = rw is.0 (record { values = values; link = is.1 })
looked_at run rows (Err why) values is = without run rows why values is

-- two truths of one fact
pub same_truth : (a b : Bool) (P : Type 0) → IsTrue a ↔ P → IsTrue b ↔ P → a ≡ b
same_truth true true P x y = refl
same_truth true false P x y = absurd (cc (y.1 (x.0 refl)))
same_truth false true P x y = absurd (cc (x.1 (y.0 refl)))
same_truth false false P x y = refl
