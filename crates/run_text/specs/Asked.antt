-- A RUN AS ITS WORDS ASK FOR IT.
use Rattle.std.specs.Prelude.{◌≡◌, ℕ, List, Option, Result}
use Rattle.mtpbank_words.specs.declared.run_words.RunWords.{RunWords}
use Rattle.bank_traffic.specs.declared.asked.Traffic.{Traffic}
use Rattle.text_base.specs.declared.fault.Fault.{Fault}
use Rattle.run_text.specs.declared.verdict.Missing.{Missing}
use Rattle.run_text.specs.declared.fault.RunFault.{RunFault}
use Rattle.run_text.specs.Running.{IsFaultOfRun, IsRunText, WritesText}

-- the traffic that the words ask for
pub record IsTrafficOf (words : RunWords) (traffic : Traffic) : Type 0 where
  pub sets_are : traffic.sets ≡ words.sets
  pub links_are : traffic.links ≡ words.links
  pub users_are : traffic.users ≡ words.users
  pub messages_are : traffic.messages ≡ words.messages
  pub fail_is : traffic.fail ≡ words.fail
  pub cyclic_is : traffic.cyclic ≡ words.cyclic
  pub turns_are : traffic.turns ≡ words.turns
  pub checkpoint_is : traffic.checkpoint ≡ words.checkpoint
  pub managed_is : traffic.managed ≡ words.report
  pub noise_is : traffic.noise ≡ words.noise
  pub seed_is : traffic.seed ≡ words.seed
  pub keeps_is : traffic.keeps ≡ words.capture

-- what came of it, as it's printed, and the first message that is missing
abbrev pub IsTextAsked : RunWords → Option Missing → List ℕ → Type 0
IsTextAsked words missing text =
    (traffic : Traffic) × (time : Option ℕ) × IsTrafficOf words traffic
    × IsRunText traffic words.report time missing text

-- THE RUN: what was written is the text of what the threads came to
abbrev pub RunsAsked : RunWords → Result (Option Missing) (Fault RunFault) → Option (List ℕ) → Option (List ℕ) → Type 0
RunsAsked words result old new = WritesText (IsTextAsked words) result old new

abbrev pub IsFaultOfAsked : RunWords → Fault RunFault → Type 0
IsFaultOfAsked words fault = (traffic : Traffic) × IsTrafficOf words traffic × IsFaultOfRun traffic fault
