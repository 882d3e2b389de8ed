-- HOW IT ENDS, AND WITH WHICH STATUS.
use Rattle.std.specs.Prelude.{◌≡◌, ◌≢◌, ◌≤◌, ◌⊎◌, ℕ, Bool, true, false, List, [], ◌∷◌, ◌++◌, length, Option, Some, None, Result, Ok, Err, IfErr, IfSome, OnOk}
use Rattle.std.specs.Io.KnownBytes.{Appends}
use Rattle.clap.specs.Values.{kind_of}
use Rattle.clap.specs.declared.error.kind.ErrorKind.{ErrorKind}
use Rattle.clap.specs.declared.error.kind.ErrorKind.TheVariants.{DisplayHelp, DisplayVersion}
use Rattle.mtpbank_words.specs.declared.words.Words.{Words}
use Rattle.mtpbank_words.specs.declared.words.Words.TheVariants.{Run}
use Rattle.mtpbank_words.specs.declared.run_words.RunWords.{RunWords}
use Rattle.mtpbank_words.specs.declared.words.WordsFault.{WordsFault}
use Rattle.mtpbank_words.specs.declared.words.WordsFault.TheVariants.{NoMemory, Words as WrongWords, Link, Said}
use Rattle.text_base.specs.declared.fault.Fault.{Fault}
use Rattle.text_base.specs.Printing.{FailsByDevices, Prints}
use Rattle.run_text.specs.declared.verdict.Missing.{Missing}
use Rattle.run_text.specs.declared.fault.RunFault.{RunFault}
use Rattle.run_text.specs.Asked.{IsFaultOfAsked, RunsAsked}
use Rattle.run_text.specs.Running.{FailsByWrites}
use Rattle.text_calls.specs.declared.running.TextFault.{TextFault}
use Rattle.mtpbank.specs.declared.ending.Ended.{Ended}
use Rattle.mtpbank.specs.declared.ending.Ended.TheVariants.{Well, Told, Untold}
use Rattle.mtpbank.specs.declared.ending.RunTold.{RunTold}
use Rattle.mtpbank.specs.declared.ending.RunTold.TheVariants.{Missing as IsMissing, Fault as IsAtFault}
use Rattle.text_calls.specs.Running.{IsTextOf, longest_of}

-- a fault is told, unless nobody reads the output any more
abbrev pub end_of : {T : Type 0} → Result (Unit {0}) (Fault T) → Bool → Ended (Fault T)
end_of (Ok done) unread = Well
end_of (Err fault) false = Told fault
end_of (Err fault) true = Untold

-- and so is a message that is missing, which is found where all was printed
abbrev pub run_end_of : Result (Option Missing) (Fault RunFault) → Bool → Ended RunTold
run_end_of (Ok None) unread = Well
run_end_of (Ok (Some missing)) unread = Told (IsMissing missing)
run_end_of (Err fault) false = Told (IsAtFault fault)
run_end_of (Err fault) true = Untold

-- the status: 0 only where all is well
abbrev pub status_of : {T : Type 0} → Ended T → ℕ
status_of Well = 0
status_of (Told it) = 1
status_of Untold = 1

-- In what follows `unread` tells whether nobody reads the output any more, where that is known; `reads` and `writes` how
-- often reads and writes have failed before the call, `reads'` and `writes'` behind it.

-- of an input: its text was printed, whole or up to its fault, or what of it could be, and that is told; a fault of a device
-- exactly where that device failed, and that the input is too long only where it is
pub record EndsText (words : Words) (input : List ℕ) (old new : Option (List ℕ)) (reads reads' writes writes' : ℕ)
    (unread : Option Bool) (end : Ended (Fault TextFault)) : Type 0 where
  pub outcome : Result (Unit {0}) (Fault TextFault)
  pub prints : Prints outcome (IsTextOf words input) old new
  pub bounded : OnOk outcome (length input ≤ longest_of words)
  pub devices : FailsByDevices (longest_of words) outcome reads reads' writes writes' input
  pub is_unread : Bool
  pub known : IfSome unread (λ (it : Bool). is_unread ≡ it)
  pub end_is : end ≡ end_of outcome is_unread

-- of a run: the text of what its threads came to was printed, and what is missing of it, or its fault, is told; a failed
-- write exactly where one failed
pub record EndsRunning (words : RunWords) (old new : Option (List ℕ)) (writes writes' : ℕ) (unread : Option Bool)
    (end : Ended RunTold) : Type 0 where
  pub outcome : Result (Option Missing) (Fault RunFault)
  pub runs : RunsAsked words outcome old new
  pub fault : IfErr outcome (IsFaultOfAsked words)
  pub failed : FailsByWrites outcome writes writes'
  pub is_unread : Bool
  pub known : IfSome unread (λ (it : Bool). is_unread ≡ it)
  pub end_is : end ≡ run_end_of outcome is_unread

-- the status tells which of both it is
abbrev pub EndsReading : Words → List ℕ → Option (List ℕ) → Option (List ℕ) → ℕ → ℕ → ℕ → ℕ → Option Bool → ℕ → Type 0
EndsReading words input old new reads reads' writes writes' unread status =
    (end : Ended (Fault TextFault)) × EndsText words input old new reads reads' writes writes' unread end
    × (status ≡ status_of end)

abbrev pub EndsRun : RunWords → Option (List ℕ) → Option (List ℕ) → ℕ → ℕ → Option Bool → ℕ → Type 0
EndsRun words old new writes writes' unread status =
    (end : Ended RunTold) × EndsRunning words old new writes writes' unread end × (status ≡ status_of end)

-- whatever the input is, the status is 0, or 1 for a fault
abbrev pub IsDone : ℕ → Type 0
IsDone status = (status ≡ 0) ⊎ (status ≡ 1)

-- WRONG WORDS, AND WHAT IS SHOWN.

-- help or the version was asked for
abbrev pub IsShown : ErrorKind → Type 0
IsShown kind = (kind ≡ DisplayHelp) ⊎ (kind ≡ DisplayVersion)

-- 2 for wrong words
abbrev pub EndsWrong : ErrorKind → ℕ → Type 0
EndsWrong kind status = kind ≢ DisplayHelp → kind ≢ DisplayVersion → status ≡ 2

-- where it was printed, or couldn't be
pub record EndsSaid (kind : ErrorKind) (WasPrinted WasNot : Type 0) (status : ℕ) : Type 0 where
  pub wrong : EndsWrong kind status
  pub shown : IsShown kind → WasPrinted → status ≡ 0
  pub unshown : IsShown kind → WasNot → status ≡ 1

-- of wrong words: 2; what was asked to be shown was, or couldn't be
abbrev pub EndsRefused : WordsFault → ℕ → Type 0
EndsRefused NoMemory status = status ≡ 1
EndsRefused (WrongWords error) status =
    EndsWrong (kind_of error) status × (IsShown (kind_of error) → IsDone status)
EndsRefused (Link fail links) status = status ≡ 2
EndsRefused (Said said) status = status ≡ 2

-- what is wrong with words is told in lines, unless that device fails
abbrev pub Tells : List ℕ → Option (List ℕ) → Option (List ℕ) → ℕ → ℕ → Type 0
Tells text old new failures failures' = Appends old new (text ++ 10 ∷ []) ⊎ (failures' ≢ failures)

-- OF ALL WORDS
abbrev pub EndsAsAsked : Result Words WordsFault → Option (List ℕ) → Option (List ℕ) → Option (List ℕ) → ℕ → ℕ → ℕ → ℕ
    → Option Bool → ℕ → Type 0
EndsAsAsked (Ok (Run run)) left old new reads reads' writes writes' unread status =
    EndsRun run old new writes writes' unread status
EndsAsAsked (Ok words) left old new reads reads' writes writes' unread status =
    IsDone status
    × IfSome left (λ input. EndsReading words input old new reads reads' writes writes' unread status)
EndsAsAsked (Err fault) left old new reads reads' writes writes' unread status = EndsRefused fault status
