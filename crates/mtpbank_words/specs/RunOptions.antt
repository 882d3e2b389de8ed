-- THE OPTIONS of `run`: how the library reads them, and which values they have.
use Rattle.std.specs.Prelude.{◌≡◌, ◌<◌, ◌≤◌, ◌↔◌, ℕ, Bool, true, false, List, [], ◌∷◌, ◌++◌, codes, Option, None, Some, IfSome, IsTrue, not, ◌&&◌}
use Rattle.clap.specs.Words.{Shape, Row, Rule, Text, first_of, new_rule}
use Rattle.clap.specs.Simple.{new_shape}
use Rattle.clap.specs.declared.builder.action.ArgAction.TheVariants.{SetTrue}
use Rattle.text_base.specs.Figures.{number_of}
use Rattle.mtpbank_words.specs.declared.run_words.RunWords.{RunWords}
use Rattle.mtpbank_words.specs.declared.run_words.Unasked.{Unasked}
use Rattle.mtpbank_words.specs.declared.run_words.Unasked.TheVariants.{Value, Link}

-- an option with a value, and one that stands there or doesn't
abbrev pub option_rule : List ℕ → Rule
option_rule name = record (new_rule name) { long = Some name; value_names = 1 }

abbrev pub flag_rule : List ℕ → Rule
flag_rule name = record (new_rule name) { long = Some name; action = Some SetTrue }

-- how much runs
abbrev pub size_rules : List Rule
size_rules =
    option_rule (codes "sets") ∷ option_rule (codes "links") ∷ option_rule (codes "users")
    ∷ option_rule (codes "messages") ∷ []

-- how it runs
abbrev pub way_rules : List Rule
way_rules =
    option_rule (codes "method") ∷ option_rule (codes "turns") ∷ option_rule (codes "checkpoint")
    ∷ flag_rule (codes "capture") ∷ []

-- a report, and what befalls its links
abbrev pub line_rules : List Rule
line_rules =
    flag_rule (codes "report") ∷ option_rule (codes "fail")
    ∷ option_rule (codes "noise") ∷ option_rule (codes "seed") ∷ []

abbrev pub with_rules : Shape → List Rule → Shape
with_rules shape rules = record shape { rules = shape.rules ++ rules }

abbrev pub run_shape : Shape
run_shape = with_rules (with_rules (with_rules (new_shape (codes "run")) line_rules) size_rules) way_rules

-- a decimal number in this range, without leading zeros
abbrev pub IsWithin : ℕ → ℕ → ℕ → List ℕ → Type 0
IsWithin least most n word = (number_of word ≡ Some n) × (least ≤ n) × (n ≤ most)

-- so it stands behind an option; where the option isn't there, it's the usual one
abbrev pub IsNumber : ℕ → ℕ → ℕ → ℕ → Option Text → Type 0
IsNumber least most usual n None = n ≡ usual
IsNumber least most usual n (Some word) = IsWithin least most n word

-- none where the option isn't there, else one in this range
abbrev pub IsOptional : ℕ → ℕ → Option ℕ → Option Text → Type 0
IsOptional least most None None = Unit {0}
IsOptional least most (Some n) None = ⊥
IsOptional least most None (Some word) = ⊥
IsOptional least most (Some n) (Some word) = IsWithin least most n word

-- the basic method, unless the other is told
abbrev pub IsMethod : Bool → Option Text → Type 0
IsMethod false None = Unit {0}
IsMethod true None = ⊥
IsMethod false (Some word) = word ≡ codes "basic"
IsMethod true (Some word) = word ≡ codes "cyclic"

-- so many turns, or, with a report, as many as there can be
abbrev pub usual_turns : Bool → ℕ
usual_turns true = 1000000
usual_turns false = 20000

-- a capture is printed in place of all lines
abbrev pub goes_alone : Bool → Bool → Bool
goes_alone capture report = not (capture && report)

-- each number in its range, as the options tell it
pub record AreValues (run : RunWords) (rows : List Row) : Type 0 where
  pub sets : IsNumber 1 16 1 run.sets (first_of (codes "sets") rows)
  pub links : IsNumber 1 16 2 run.links (first_of (codes "links") rows)
  pub users : IsNumber 1 16 4 run.users (first_of (codes "users") rows)
  pub messages : IsNumber 1 1024 1000 run.messages (first_of (codes "messages") rows)
  pub fail : IsOptional 0 15 run.fail (first_of (codes "fail") rows)
  pub method : IsMethod run.cyclic (first_of (codes "method") rows)
  pub turns : IsNumber 1 1000000 (usual_turns run.report) run.turns (first_of (codes "turns") rows)
  pub checkpoint : IsOptional 1 1024 run.checkpoint (first_of (codes "checkpoint") rows)
  pub report : IsTrue run.report ↔ (first_of (codes "report") rows ≡ Some (codes "true"))
  pub capture : IsTrue run.capture ↔ (first_of (codes "capture") rows ≡ Some (codes "true"))
  pub alone : goes_alone run.capture run.report ≡ true
  pub noise : IsOptional 1 10000000 run.noise (first_of (codes "noise") rows)
  pub seed : IsNumber 0 4294967295 1 run.seed (first_of (codes "seed") rows)

-- THE RUN that is asked for: each number in its range, the failing link below the links
pub record IsRun (run : RunWords) (rows : List Row) : Type 0 where
  pub values : AreValues run rows
  pub link : IfSome run.fail (λ (link : ℕ). link < run.links)

-- the link that is to fail in this run isn't below its links
abbrev pub IsWithout : RunWords → Unasked → Type 0
IsWithout run (Value said) = ⊥
IsWithout run (Link fail links) = (run.fail ≡ Some fail) × (run.links ≡ links) × (links ≤ fail)

-- each number is in its range, but the link that is to fail isn't below the links
abbrev pub LacksLink : ℕ → ℕ → List Row → Type 0
LacksLink fail links rows = (run : RunWords) × AreValues run rows × IsWithout run (Link fail links)

-- why these options ask for no run
abbrev pub IsUnasked : Unasked → List Row → Type 0
IsUnasked (Value said) rows = (run : RunWords) → AreValues run rows → ⊥
IsUnasked (Link fail links) rows = LacksLink fail links rows
