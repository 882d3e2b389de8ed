-- THE CAPTURE of a script: a pcap file of link type 139 (MTP2 with a pseudo-header), which holds each unit that its
-- ends send, with its direction and its link.
use Rattle.std.specs.Prelude.{ℕ, Bool, List, [], ◌∷◌, ◌++◌, ◌+◌, ◌*◌, ◌/◌, ◌%◌, length, Option, Some, None, if◌then◌else◌}
use Rattle.l2_units.specs.Grammar.{head_of as header_of, body_of}
use Rattle.l2_units.specs.declared.unit.Header.{Header}
use Rattle.l2_units.specs.declared.unit.Unit.{Unit as SignalUnit}
use Rattle.l2_units.specs.declared.profile.Profile.{Profile}
use Rattle.l2_units.specs.declared.profile.Profile.TheVariants.{Narrow, Wide}
use Rattle.set_events.specs.declared.answer.Answer.{Answer}
use Rattle.set_events.specs.declared.answer.Answer.TheVariants.{Accepted, Taken, Found, Sent, Heard, Done, Refused}
use Rattle.pair_steps.specs.declared.step.End.{End}
use Rattle.pair_steps.specs.declared.step.End.TheVariants.{A, B}
use Rattle.pair_steps.specs.declared.step.Step.TheVariants.{Act, Emit, Arrive, Lose, Together, Inject}
use Rattle.pair_steps.specs.declared.step.Shown.{Shown}
use Rattle.pair_steps.specs.declared.step.Shown.TheVariants.{Up, Lost, Answered}
use Rattle.pair_model.specs.World.{World}
use Rattle.pair_rises.specs.declared.moves.Move.{Move}
use Rattle.pair_rises.specs.declared.moves.Move.TheVariants.{Step as MoveStep, Rise, Fill}
use Rattle.text_entries.specs.Texts.{unit_octets}
use Rattle.text_pcap.specs.PcapFile.{file_head, record_at, two}
use Rattle.text_base.specs.Printing.{Printed}
use Rattle.script_walk.specs.declared.fault.ScriptFault.{ScriptFault}
use Rattle.script_walk.specs.Explaining.{IsExplainedText}
use Rattle.script_walk.specs.Scripts.{Told, profile_of, IsScriptText}
use Rattle.text_lines.specs.Explaining.{Explained}

-- the file's head, by the most octets that a record holds
abbrev pub longest_record : Profile → ℕ
longest_record Narrow = 280
longest_record Wide = 282

abbrev pub head_of : Profile → List ℕ
head_of profile = file_head (longest_record profile)

-- a record: its time is a millisecond for each line
abbrev pub record_of : ℕ → List ℕ → List ℕ
record_of n octets = record_at (n / 1000) (n % 1000 * 1000) octets

-- end a's side is the one that captures: it sends its own units and receives those of end b
abbrev pub direction : End → ℕ
direction A = 1
direction B = 0

-- whether a unit stands in the form of Annex A of Q.703, which has numbers of 12 bits
abbrev pub annex_a : Profile → ℕ
annex_a Narrow = 0
annex_a Wide = 1

-- the pseudo-header of link type 139: 1 for a unit that is sent and 0 for one that is received; whether Annex A of
-- Q.703 is used; and the link's number in two octets, the high one, which no link here needs, first
abbrev pub pseudo_header : Profile → End → ℕ → List ℕ
pseudo_header profile end link = direction end ∷ annex_a profile ∷ 0 ∷ link ∷ []

-- that form: the BSN in 12 bits, three spare ones and the BIB; the FSN and the FIB so too; the length of the body in 9
-- bits and seven spare ones; the low octet of each pair first, spare bits 0; and the body (Q.703 Annex A)
abbrev pub with_bit : ℕ → Bool → ℕ
with_bit number indicator = number + (if indicator then 32768 else 0)

abbrev pub annex_a_octets : Header → List ℕ → List ℕ
annex_a_octets head body =
    two (with_bit head.bsn head.bib) ++ (two (with_bit head.fsn head.fib) ++ (two (length body) ++ body))

-- a unit as analysers read it: a wide one, whose own four octets of header none of them knows, is translated
abbrev pub captured : Profile → SignalUnit → List ℕ
captured Narrow unit = unit_octets Narrow unit
captured Wide unit = annex_a_octets (header_of unit) (body_of unit)

-- a sent unit has a record, without its check octets
abbrev pub answer_record : Profile → ℕ → List ℕ → Answer → List ℕ
answer_record profile n header (Sent unit) = record_of n (header ++ captured profile unit)
answer_record profile n header (Accepted number) = []
answer_record profile n header (Taken body) = []
answer_record profile n header (Found fate) = []
answer_record profile n header (Heard report) = []
answer_record profile n header Done = []
answer_record profile n header (Refused why) = []

abbrev pub shown_record : Profile → ℕ → List ℕ → Shown → List ℕ
shown_record profile n header Up = []
shown_record profile n header Lost = []
shown_record profile n header (Answered answer) = answer_record profile n header answer

-- a unit is sent by the move of an end on a link
abbrev pub move_record : Profile → ℕ → Move → Shown → List ℕ
move_record profile n (MoveStep (Emit end link)) shown =
    shown_record profile n (pseudo_header profile end link) shown
move_record profile n (Fill end link) shown = shown_record profile n (pseudo_header profile end link) shown
move_record profile n (Rise end link) shown = []
move_record profile n (MoveStep (Act end event)) shown = []
move_record profile n (MoveStep (Arrive end link)) shown = []
move_record profile n (MoveStep (Lose end link place)) shown = []
move_record profile n (MoveStep (Together link)) shown = []
move_record profile n (MoveStep (Inject end link unit)) shown = []

-- a script that makes no world leaves the head alone, that of the narrow profile
abbrev pub at_the_end : Option World → List ℕ
at_the_end None = head_of Narrow
at_the_end (Some w) = []

abbrev pub capture_told : Told
capture_told = record {
  opening = λ w. head_of (profile_of w);
  step = λ n before move shown w. move_record (profile_of w) n move shown;
  at_the_end = at_the_end;
}

-- THE FILE (script_walk, specs/Scripts.antt)
abbrev pub IsCapture : List ℕ → Printed ScriptFault → Type 0
IsCapture = IsScriptText capture_told

-- the file, with an explanation of the line that ends the script with a fault (script_walk, specs/Explaining.antt)
abbrev pub IsExplainedCapture : List ℕ → Printed (Explained ScriptFault) → Type 0
IsExplainedCapture = IsExplainedText capture_told
