-- THE PRINTED TEXTS: what a step of the world shows, and how an end stands, each ended by LF.
use Rattle.std.specs.Prelude.{◌≡◌, ℕ, Bool, nat_le, List, [], ◌++◌, length, take, Option, Some, None, Result, MatchResult, codes, decimal, if◌then◌else◌}
use Rattle.l2_bits.specs.SealedText.{sealed_text}
use Rattle.l2_units.specs.Grammar.{head_of, body_of, text}
use Rattle.l2_units.specs.Profile.{longest_body}
use Rattle.l2_units.specs.declared.profile.Profile.{Profile}
use Rattle.l2_units.specs.declared.profile.Profile.TheVariants.{Narrow, Wide}
use Rattle.l2_units.specs.declared.unit.Unit.{Unit as SignalUnit}
use Rattle.set_events.specs.Numbers.{refusal_number, ControlFault, fault_number, cause_number}
use Rattle.set_events.specs.declared.answer.Fate.{Fate}
use Rattle.set_events.specs.declared.answer.Fate.TheVariants.{Waiting, Unacked, Acked, Held, Parked, Back, Discarded}
use Rattle.set_events.specs.declared.answer.Took.{Took}
use Rattle.set_events.specs.declared.answer.Took.TheVariants.{Nothing, Message, Order, Ignored}
use Rattle.set_events.specs.declared.answer.Report.{Report}
use Rattle.set_events.specs.declared.answer.Counts.{Counts}
use Rattle.set_events.specs.declared.answer.Answer.{Answer}
use Rattle.set_events.specs.declared.answer.Answer.TheVariants.{Accepted, Taken, Found, Sent, Heard, Done, Refused}
use Rattle.set_model.specs.Rows.{total_of}
use Rattle.set_model.specs.Step.{has_numbers}
use Rattle.pair_steps.specs.declared.step.End.{End}
use Rattle.pair_steps.specs.declared.step.End.TheVariants.{A, B}
use Rattle.pair_steps.specs.declared.step.Shown.{Shown}
use Rattle.pair_steps.specs.declared.step.Shown.TheVariants.{Up, Lost, Answered}
use Rattle.text_base.specs.Figures.{hex_text, bit}

-- a text was appended; where memory was wanted, what stood before still stands at the front
abbrev pub Appends : {E : Type 0} → Result (Unit {0}) E → List ℕ → List ℕ → List ℕ → Type 0
Appends result old text new = MatchResult result (λ done. new ≡ old ++ text) (λ want. take (length old) new ≡ old)

abbrev pub fate_text : Fate → List ℕ
fate_text (Waiting link) = codes "found waiting " ++ (decimal link ++ codes "\n")
fate_text (Unacked link) = codes "found unacked " ++ (decimal link ++ codes "\n")
fate_text (Acked link) = codes "found acked " ++ (decimal link ++ codes "\n")
fate_text (Held link) = codes "found held " ++ (decimal link ++ codes "\n")
fate_text Parked = codes "found parked\n"
fate_text (Back code) = codes "found back " ++ (decimal code ++ codes "\n")
fate_text (Discarded cause) =
    codes "found discarded " ++ (decimal (cause_number cause) ++ codes "\n")

abbrev pub took_text : Took → List ℕ
took_text Nothing = codes "nothing"
took_text Message = codes "message"
took_text Order = codes "order"
took_text Ignored = codes "ignored"

abbrev pub fault_code : Option ControlFault → ℕ
fault_code None = 0
fault_code (Some fault) = fault_number fault

-- what a heard unit asked for, and its fault
abbrev pub flags_text : Report → List ℕ
flags_text r =
    codes " asked=" ++ (decimal (bit r.asked) ++ (codes " resend=" ++ (decimal (bit r.resend)
    ++ (codes " fault=" ++ (decimal (fault_code r.fault) ++ codes "\n")))))

abbrev pub report_text : Report → List ℕ
report_text r =
    codes "heard acked=" ++ (decimal r.acked ++ (codes " took=" ++ (took_text r.took ++ flags_text r)))

-- a unit that has a form in this profile: numbers of seven bits in the narrow one, a body of at most 272 octets in the
-- wide one
abbrev pub has_form : Profile → SignalUnit → Bool
has_form Narrow unit = has_numbers Narrow (head_of unit)
has_form Wide unit = nat_le (length (body_of unit)) (longest_body Wide)

-- a unit's octets, without check octets; one that has no form in the profile, which no set of the profile sends, has none
-- (own)
abbrev pub unit_octets : Profile → SignalUnit → List ℕ
unit_octets profile unit = if has_form profile unit then text profile unit else []

-- a sent unit is printed with its check octets
abbrev pub sent_line : List ℕ → List ℕ
sent_line octets = codes "sent " ++ (hex_text (sealed_text octets) ++ codes "\n")

abbrev pub answer_text : Profile → Answer → List ℕ
answer_text profile (Accepted number) = codes "accepted " ++ (decimal number ++ codes "\n")
answer_text profile (Taken body) = codes "taken " ++ (hex_text body.items ++ codes "\n")
answer_text profile (Found fate) = fate_text fate
answer_text profile (Sent unit) = sent_line (unit_octets profile unit)
answer_text profile (Heard report) = report_text report
answer_text profile Done = codes "done\n"
answer_text profile (Refused why) = codes "refused " ++ (decimal (refusal_number why) ++ codes "\n")

abbrev pub shown_line : Profile → Shown → List ℕ
shown_line profile Up = codes "up\n"
shown_line profile Lost = codes "lost\n"
shown_line profile (Answered answer) = answer_text profile answer

-- THE TEXT of what a step of two sets of this profile shows; a name of its own, so that who speaks of it doesn't compute
-- it
unfoldable pub shown_text : Profile → Shown → List ℕ
shown_text profile shown = shown_line profile shown

abbrev pub end_name : End → List ℕ
end_name A = codes "a"
end_name B = codes "b"

-- how the users' messages of an end stand when the script ends; `accepted` is all of them
abbrev pub link_counts : End → Counts → List ℕ
link_counts end c =
    codes "end " ++ (end_name end ++ (codes " accepted=" ++ (decimal (total_of c)
    ++ (codes " waiting=" ++ (decimal c.waiting ++ (codes " unacked=" ++ (decimal c.unacked
    ++ (codes " acked=" ++ decimal c.acked))))))))

abbrev pub other_counts : Counts → List ℕ
other_counts c =
    codes " held=" ++ (decimal c.held ++ (codes " parked=" ++ (decimal c.parked
    ++ (codes " back=" ++ (decimal c.back ++ (codes " discarded=" ++ (decimal c.discarded ++ codes "\n")))))))

-- THE TEXT of how an end stands
unfoldable pub end_text : End → Counts → List ℕ
end_text end c = link_counts end c ++ other_counts c
