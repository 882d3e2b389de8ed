-- The subcommand that was found, with its rows, and what it can't ask for.
use Rattle.std.proofs.Common.{◌≡◌, ◌≢◌, ap, ap₂, sym, ◌∙◌, arith, codes, slice_index, ℕ, Bool, List, Option, None, Some, Box}
use Rattle.std.specs.Option.{option_map}
use Rattle.std.specs.Box.{box_value}
use Rattle.clap.specs.Words.{Row, Text, first_of, subcommand_rows}
use Rattle.clap.specs.declared.parser.matches.ArgMatches.TheViews.{out-SubCommand}
use Rattle.clap.specs.declared.parser.matches.SubCommand.{SubCommand}
use Rattle.mtpbank_words.specs.declared.words.Words.{Words}
use Rattle.mtpbank_words.specs.declared.words.Words.TheVariants.{Units, Script, Decode, Audit, Terminal, Run}
use Rattle.mtpbank_words.specs.declared.words.Told.TheVariants.{Play, Capture, Ladder, HistoryOfA, HistoryOfB}
use Rattle.mtpbank_words.specs.declared.run_words.RunWords.{RunWords}
use Rattle.mtpbank_words.specs.declared.run_words.Unasked.{Unasked}
use Rattle.mtpbank_words.specs.declared.run_words.Unasked.TheVariants.{Value, Link}
use Rattle.mtpbank_words.specs.RunOptions.{AreValues, IsRun, IsUnasked, LacksLink}
use Rattle.mtpbank_words.specs.CommandLine.{HasOptions, IsNotFound, IsWord, is_set, name_of}

pub found_is : {Z : Type 0} (found : Option (Box SubCommand Z)) (name : Text) (rows : List Row)
    → Some name ≡ option_map (λ b. (out-SubCommand (box_value b)).name.now) found
    → Some rows ≡ option_map (λ p. p.1) (subcommand_rows found) → subcommand_rows found ≡ Some (name, rows)
found_is None name rows a b = cc a
found_is (Some s) name rows a b =
    let first : (out-SubCommand (box_value s)).name.now ≡ name = cc a in
    let second : _ ≡ rows = cc b in
    ap₂ (λ (n : Text) (r : List Row). Some (n, r)) first second

-- only `run` has options
pub options : (asked : Words) (name : Text) (end : Option Text) (wide keeps explains : Bool) (rows : List Row) → name ≢ codes "run"
    → IsWord asked name end wide keeps explains → HasOptions asked rows
options Units name end wide keeps explains rows other is = tt
options (Script told by) name end wide keeps explains rows other is = tt
options (Decode width by) name end wide keeps explains rows other is = tt
options (Audit by) name end wide keeps explains rows other is = tt
options (Terminal kept by) name end wide keeps explains rows other is = tt
options (Run run) name end wide keeps explains rows other is = absurd (other is.name_is)

-- the first letter tells `run` from the others
letter : (asked : Words) (name : Text) → name ≡ codes "run" → name ≡ name_of asked → slice_index (name_of asked) 0 ≡ 114
letter asked name is_run is = ap (λ (text : List ℕ). slice_index text 0) (sym is ∙ is_run)

module _ (name : Text) (rows : List Row) (is_run : name ≡ codes "run") where
  no_word : (asked : Words) → ((run : RunWords) → IsRun run rows → ⊥)
      → IsWord asked name (first_of (codes "END") rows) (is_set (codes "wide") rows) (is_set (codes "keep") rows) (is_set (codes "explain") rows)
      × HasOptions asked rows → ⊥
  no_word Units none is = let bad : 117 ≡ 114 = letter Units name is_run is.0.name_is in omega (arith, bad)
  no_word (Script Play by) none is = let bad : 112 ≡ 114 = letter (Script Play by) name is_run is.0.name_is in omega (arith, bad)
  no_word (Script Capture by) none is = let bad : 99 ≡ 114 = letter (Script Capture by) name is_run is.0.name_is in omega (arith, bad)
  no_word (Script Ladder by) none is = let bad : 108 ≡ 114 = letter (Script Ladder by) name is_run is.0.name_is in omega (arith, bad)
  no_word (Script HistoryOfA by) none is = let bad : 104 ≡ 114 = letter (Script HistoryOfA by) name is_run is.0.name_is in omega (arith, bad)
  no_word (Script HistoryOfB by) none is = let bad : 104 ≡ 114 = letter (Script HistoryOfB by) name is_run is.0.name_is in omega (arith, bad)
  no_word (Decode width by) none is = let bad : 100 ≡ 114 = letter (Decode width by) name is_run is.0.name_is in omega (arith, bad)
  no_word (Audit by) none is = let bad : 97 ≡ 114 = letter (Audit by) name is_run is.0.name_is in omega (arith, bad)
  no_word (Terminal kept by) none is = let bad : 116 ≡ 114 = letter (Terminal kept by) name is_run is.0.name_is in omega (arith, bad)
  no_word (Run run) none is = none run is.1

  in_range : (fail links : ℕ) → ((run : RunWords) → AreValues run rows → ⊥) → LacksLink fail links rows → ⊥
  in_range fail links no_values (run, values, is) = no_values run values

  -- options that ask for no run
  pub no_run : (why : Unasked) → IsUnasked why rows → IsNotFound why (Some (name, rows))
  no_run (Value said) no_values = record {
    none = λ asked is. no_word asked (λ run it. no_values run it.values) is;
    no_link = λ fail links linkless. in_range fail links no_values linkless.1;
  }
  no_run (Link fail links) lacks = (is_run, lacks)
