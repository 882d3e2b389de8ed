-- The words of an entry's text tell that entry.
use Rattle.std.proofs.Common.{refl, arith, ◌≡◌, ◌==◌, ◌∙◌, ap, sym, ◌<◌, ◌≤◌, [], ◌∷◌, length, ℕ, ◌+◌, ◌-◌, ◌^◌, ◌/◌, Bool, true, false, nat_le, nat_lt, nat_eq, List, ◌++◌, Option, Some, None, decimal, codes, append_assoc, append-nil, take, zero, suc, if◌then◌else◌}
use Rattle.std.proofs.lemmas.Bool.Decides.{nat_tests}
use Rattle.std.proofs.lemmas.Grind.{common_steps}
use Rattle.std.proofs.lemmas.Slice.Eq.{bytes_eq-Decides}
use Rattle.std.proofs.lemmas.List.{append_cancel_left}
use Rattle.std.proofs.lemmas.List.Elements.{All-append}
use Rattle.std.proofs.lemmas.Fmt.{decimal_digit}
use Rattle.std.specs.Option.{option_map, option_and_then}
use Rattle.std.specs.Str.{bytes_eq}
use Rattle.l2_bits.proofs.SealedTextLemmas.{sealed_meets_check}
use Rattle.l2_units.specs.declared.unit.Unit.{Unit as SignalUnit}
use Rattle.l2_units.specs.declared.unit.Unit.TheVariants.{Fisu, Lssu, Msu}
use Rattle.l2_units.specs.Grammar.{head_of, text, unit_of, IsUnit, IsTheTextOf}
use Rattle.l2_units.specs.declared.profile.Profile.{Profile}
use Rattle.l2_units.specs.declared.profile.Profile.TheVariants.{Narrow, Wide}
use Rattle.l2_units.proofs.Texts.{stands_is}
use Rattle.l2_units.specs.declared.cause.ControlFault.{ControlFault}
use Rattle.l2_units.specs.declared.cause.ControlFault.TheVariants.{Bsn, Fib}
use Rattle.set_events.specs.declared.event.Actor.{Actor}
use Rattle.set_events.specs.declared.event.Actor.TheVariants.{User, Terminal}
use Rattle.set_events.specs.declared.event.Event.{Event}
use Rattle.set_events.specs.declared.event.Event.TheVariants.{Offer, Take, Find, Next, Heard as Hear, Up, Down, DownBlind, NoAnswer, Timed, Restore, Redeclare, BackTimeout, Test}
use Rattle.set_events.specs.declared.answer.Fate.{Fate}
use Rattle.set_events.specs.declared.answer.Fate.TheVariants.{Waiting, Unacked, Acked, Held, Parked, Back, Discarded}
use Rattle.set_events.specs.declared.answer.Took.{Took}
use Rattle.set_events.specs.declared.answer.Took.TheVariants.{Nothing as TookNothing, Message, Order, Ignored}
use Rattle.set_events.specs.declared.answer.DiscardCause.TheVariants.{Emergency, Unreasonable, NoAnswer as NobodyAnswered}
use Rattle.set_events.specs.declared.answer.Refusal.{Refusal as SetRefusal}
use Rattle.set_events.specs.declared.answer.Refusal.TheVariants.{TooShort, TooLong, Reserved, StreamFull, NotUp, NotDown, Unsettled, UnknownNumber, Nothing, NoSuchLink, Finished}
use Rattle.set_events.specs.declared.answer.Report.{Report}
use Rattle.set_events.specs.declared.answer.Answer.{Answer}
use Rattle.set_events.specs.declared.answer.Answer.TheVariants.{Accepted, Taken, Found, Sent, Heard, Done, Refused}
use Rattle.set_events.specs.declared.history.Entry.{Entry}
use Rattle.set_events.specs.Numbers.{refusal_number}
use Rattle.text_base.specs.Figures.{number_of, number_below, octets_of, hex_text, bit}
use Rattle.text_entries.specs.Texts.{answer_text, unit_octets, sent_line, fate_text, took_text, fault_code, report_text}
use Rattle.text_entries.specs.Entries.{numbered, actor_text, event_text, entry_text, AreOctets, IsOnLine, ActorFits, EventFits, FateFits, AnswerFits, EntryFits, EntriesFit, entries_text}
use Rattle.text_forms.specs.Places.{unit_of as unit_in}
use Rattle.text_entries.specs.Reading.{behind, is_gap, is_arrow, word, others, value, link_in, acked_in, actor_in, body_in, link_event_in, linked_fate_in, refusal_in, took_in, yes_in, fault_in, heard_in, told, asked_in, told_in, entry_in, entry_of}
use Rattle.text_entries.proofs.WordLemmas.{passes, until_passed, behind_passed, behind_ended}
use Rattle.text_entries.proofs.FigureLemmas.{number_again, below_again, number_is_word, number_no_arrow, octets_again, octets_are_word, octets_no_arrow, first_octet}

-- Words in front.

numbered_front : (words : List ℕ) (n : ℕ) (more : List ℕ) → numbered words n ++ more ≡ words ++ (decimal n ++ 32 ∷ more)
numbered_front words n more = append_assoc words (decimal n ++ codes " ") more ∙ ap (λ (l : List ℕ). words ++ l) (append_assoc (decimal n) (codes " ") more)

number_word : (n g : ℕ) (more : List ℕ) → n < 2 ^ 64 → is_gap g ≡ true → word (decimal n ++ g ∷ more) ≡ decimal n
number_word n g more h e = until_passed is_gap (decimal n) g more (number_is_word n h) e

number_others : (n g : ℕ) (more : List ℕ) → n < 2 ^ 64 → is_gap g ≡ true → others (decimal n ++ g ∷ more) ≡ more
number_others n g more h e = behind_ended is_gap (decimal n) g more (number_is_word n h) e

octets_word : (os : List ℕ) (g : ℕ) (more : List ℕ) → AreOctets os → is_gap g ≡ true → word (hex_text os ++ g ∷ more) ≡ hex_text os
octets_word os g more h e = until_passed is_gap (hex_text os) g more (octets_are_word os h) e

number_read : (n g : ℕ) (more : List ℕ) → n < 2 ^ 64 → is_gap g ≡ true → number_of (word (decimal n ++ g ∷ more)) ≡ Some n
number_read n g more h e = ap number_of (number_word n g more h e) ∙ number_again n h

link_read : (n g : ℕ) (more : List ℕ) → n < 2 ^ 8 → is_gap g ≡ true → link_in (word (decimal n ++ g ∷ more)) ≡ Some n
link_read n g more h e =
    let wide : n < 2 ^ 64 = omega (arith, h) in
    ap link_in (number_word n g more wide e) ∙ below_again (2 ^ 8) n h wide

octets_read : (os : List ℕ) (g : ℕ) (more : List ℕ) → AreOctets os → is_gap g ≡ true → octets_of (word (hex_text os ++ g ∷ more)) ≡ Some os
octets_read os g more h e = ap octets_of (octets_word os g more h e) ∙ octets_again os h

-- Who asked.

actor_back : (who : Actor) (more : List ℕ) → ActorFits who → actor_in (word (actor_text who ++ more)) (word (others (actor_text who ++ more))) ≡ Some who
actor_back (User n) more h =
    let wide : n < 2 ^ 64 = omega (arith, h) in
    ap (λ (l : List ℕ). actor_in (word l) (word (others l))) (numbered_front (codes "user ") n more)
    ∙ ap (λ (w : List ℕ). option_map User (number_below (2 ^ 16) w)) (number_word n 32 more wide refl)
    ∙ ap (option_map User) (below_again (2 ^ 16) n h wide)
actor_back (Terminal n) more h =
    ap (λ (l : List ℕ). actor_in (word l) (word (others l))) (numbered_front (codes "terminal ") n more)
    ∙ ap (option_map Terminal) (link_read n 32 more h refl)

behind_actor : (who : Actor) (more : List ℕ) → ActorFits who → others (others (actor_text who ++ more)) ≡ more
behind_actor (User n) more h =
    ap (λ (l : List ℕ). others (others l)) (numbered_front (codes "user ") n more) ∙ number_others n 32 more (omega (arith, h)) refl
behind_actor (Terminal n) more h =
    ap (λ (l : List ℕ). others (others l)) (numbered_front (codes "terminal ") n more) ∙ number_others n 32 more (omega (arith, h)) refl

-- What was asked.

-- a law of units, as their crate tells it
abbrev pub UnitsHaveOneText : Profile → Type 0
UnitsHaveOneText p = (unit : SignalUnit) → IsUnit p unit → IsTheTextOf p unit

unit_again : (p : Profile) → UnitsHaveOneText p → (unit : SignalUnit) → IsOnLine p unit → unit_of p (text p unit) ≡ Some unit
unit_again p law unit h = stands_is p (text p unit) unit (law unit h.0).stands

-- a unit of a profile has its octets
on_line : (p : Profile) (unit : SignalUnit) → IsUnit p unit → unit_octets p unit ≡ text p unit
on_line Narrow unit is =
    let bsn = is.0.0 in
    let fsn = is.0.1 in
    let backward : nat_lt (head_of unit).bsn 128 ≡ true = grind (arith, nat_tests, bsn) in
    let forward : nat_lt (head_of unit).fsn 128 ≡ true = grind (arith, nat_tests, fsn) in
    rw (backward, forward) refl
on_line Wide (Fisu head) is = refl
on_line Wide (Lssu head status) is = refl
on_line Wide (Msu head body) is =
    let short = is.1.1 in
    let fits : nat_le (length body.items) 272 ≡ true = grind (arith, nat_tests, short) in
    rw fits refl

-- no unit has no octets
unit_read : (p : Profile) (w : List ℕ) → unit_in p w ≡ option_and_then (unit_of p) (octets_of w)
unit_read Narrow [] = refl
unit_read Wide [] = refl
unit_read p (c ∷ cs) = let some : (length (c ∷ cs) == 0) ≡ false = grind (arith, nat_tests) in rw some refl

on_link : (name : List ℕ) (n : ℕ) (more : List ℕ) → n < 2 ^ 8 → option_and_then (link_event_in name) (link_in (word (decimal n ++ 32 ∷ more))) ≡ link_event_in name n
on_link name n more h = ap (option_and_then (link_event_in name)) (link_read n 32 more h refl)

-- octets begin with no arrow
no_dash : (o : ℕ) (os : List ℕ) → o < 2 ^ 8 → bytes_eq (hex_text (o ∷ os)) (codes "->") ≡ false
no_dash o os h = go (nat_lt (o / 16) 10) refl
  where
    go : (b : Bool) → nat_lt (o / 16) 10 ≡ b → bytes_eq (hex_text (o ∷ os)) (codes "->") ≡ false
    go true e = let no : nat_eq (o / 16 + 48) 45 ≡ false = grind (arith, nat_tests) in rw (e, no) refl
    go false e = let no : nat_eq (o / 16 + 87) 45 ≡ false = grind (arith, nat_tests) in rw (e, no) refl

offer_back : (p : Profile) (o : ℕ) (os more : List ℕ) → AreOctets (o ∷ os) → asked_in p (event_text p (Offer (o ∷ os)) ++ more) ≡ Some (Offer (o ∷ os))
offer_back p o os more h =
    ap (λ (l : List ℕ). asked_in p (codes "offer " ++ l)) (append_assoc (hex_text (o ∷ os)) (codes " ") more)
    ∙ ap (λ (w : List ℕ). option_map Offer (body_in w)) (octets_word (o ∷ os) 32 more h refl)
    ∙ rw (no_dash o os (first_octet o os h)) (ap (option_map Offer) (octets_again (o ∷ os) h))

hear_back : (p : Profile) → UnitsHaveOneText p → (link : ℕ) (unit : SignalUnit) (more : List ℕ) → link < 2 ^ 8 → IsOnLine p unit → asked_in p (event_text p (Hear link unit) ++ more) ≡ Some (Hear link unit)
hear_back p law link unit more h is =
    let units = hex_text (text p unit) ++ 32 ∷ more in
    ap (λ (os : List ℕ). asked_in p ((numbered (codes "hear ") link ++ (hex_text os ++ codes " ")) ++ more)) (on_line p unit is.0)
    ∙ ap (asked_in p) (append_assoc (numbered (codes "hear ") link) (hex_text (text p unit) ++ codes " ") more
    ∙ ap (λ (l : List ℕ). numbered (codes "hear ") link ++ l) (append_assoc (hex_text (text p unit)) (codes " ") more)
    ∙ numbered_front (codes "hear ") link units)
    ∙ ap (λ (l : Option ℕ). option_and_then (λ k. option_map (Hear k) (unit_in p (word (others (decimal link ++ 32 ∷ units))))) l) (link_read link 32 units h refl)
    ∙ ap (λ (l : List ℕ). option_map (Hear link) (unit_in p (word l))) (number_others link 32 units (omega (arith, h)) refl)
    ∙ ap (option_map (Hear link)) (unit_read p (word units))
    ∙ ap (λ (o : Option (List ℕ)). option_map (Hear link) (option_and_then (unit_of p) o)) (octets_read (text p unit) 32 more is.1 refl)
    ∙ ap (option_map (Hear link)) (unit_again p law unit is)

asked_back : (p : Profile) → UnitsHaveOneText p → (event : Event) (more : List ℕ) → EventFits p event → asked_in p (event_text p event ++ (codes "-> " ++ more)) ≡ Some event
asked_back p law (Offer []) more h = refl
asked_back p law (Offer (o ∷ os)) more h = offer_back p o os (codes "-> " ++ more) h
asked_back p law Take more h = refl
asked_back p law (Find n) more h = ap (asked_in p) (numbered_front (codes "find ") n (codes "-> " ++ more)) ∙ ap (option_map Find) (number_read n 32 (codes "-> " ++ more) h refl)
asked_back p law (Next n) more h = ap (asked_in p) (numbered_front (codes "next ") n (codes "-> " ++ more)) ∙ on_link (codes "next") n (codes "-> " ++ more) h
asked_back p law (Hear n unit) more h = hear_back p law n unit (codes "-> " ++ more) h.0 h.1
asked_back p law (Up n) more h = ap (asked_in p) (numbered_front (codes "up ") n (codes "-> " ++ more)) ∙ on_link (codes "up") n (codes "-> " ++ more) h
asked_back p law (Down n) more h = ap (asked_in p) (numbered_front (codes "down ") n (codes "-> " ++ more)) ∙ on_link (codes "down") n (codes "-> " ++ more) h
asked_back p law (DownBlind n) more h = ap (asked_in p) (numbered_front (codes "blind ") n (codes "-> " ++ more)) ∙ on_link (codes "blind") n (codes "-> " ++ more) h
asked_back p law (NoAnswer n) more h = ap (asked_in p) (numbered_front (codes "noanswer ") n (codes "-> " ++ more)) ∙ on_link (codes "noanswer") n (codes "-> " ++ more) h
asked_back p law (Timed n) more h = ap (asked_in p) (numbered_front (codes "timed ") n (codes "-> " ++ more)) ∙ on_link (codes "timed") n (codes "-> " ++ more) h
asked_back p law (Restore n) more h = ap (asked_in p) (numbered_front (codes "restore ") n (codes "-> " ++ more)) ∙ on_link (codes "restore") n (codes "-> " ++ more) h
asked_back p law (Redeclare n) more h = ap (asked_in p) (numbered_front (codes "redeclare ") n (codes "-> " ++ more)) ∙ on_link (codes "redeclare") n (codes "-> " ++ more) h
asked_back p law (BackTimeout n) more h = ap (asked_in p) (numbered_front (codes "backtimeout ") n (codes "-> " ++ more)) ∙ on_link (codes "backtimeout") n (codes "-> " ++ more) h
asked_back p law (Test n) more h = ap (asked_in p) (numbered_front (codes "test ") n (codes "-> " ++ more)) ∙ on_link (codes "test") n (codes "-> " ++ more) h

-- What was answered.

-- a place with a number behind its name
placed : (name : List ℕ) (n : ℕ) (more : List ℕ) → n < 2 ^ 8 → option_map Found (option_and_then (linked_fate_in name) (link_in (word ((decimal n ++ codes "\n") ++ more)))) ≡ option_map Found (linked_fate_in name n)
placed name n more h =
    ap (λ (l : List ℕ). option_map Found (option_and_then (linked_fate_in name) (link_in (word l)))) (append_assoc (decimal n) (codes "\n") more)
    ∙ ap (λ (l : Option ℕ). option_map Found (option_and_then (linked_fate_in name) l)) (link_read n 10 more h refl)

fate_back : (p : Profile) (fate : Fate) (more : List ℕ) → FateFits fate → told_in p (fate_text fate ++ more) ≡ Some (Found fate)
fate_back p (Waiting n) more h = placed (codes "waiting") n more h
fate_back p (Unacked n) more h = placed (codes "unacked") n more h
fate_back p (Acked n) more h = placed (codes "acked") n more h
fate_back p (Held n) more h = placed (codes "held") n more h
fate_back p Parked more h = refl
fate_back p (Back n) more h = placed (codes "back") n more h
fate_back p (Discarded Emergency) more h = placed (codes "discarded") 1 more (omega arith)
fate_back p (Discarded Unreasonable) more h = placed (codes "discarded") 2 more (omega arith)
fate_back p (Discarded NobodyAnswered) more h = placed (codes "discarded") 3 more (omega arith)

refusal_small : (why : SetRefusal) → refusal_number why < 2 ^ 64
refusal_small TooShort = omega arith
refusal_small TooLong = omega arith
refusal_small Reserved = omega arith
refusal_small StreamFull = omega arith
refusal_small NotUp = omega arith
refusal_small NotDown = omega arith
refusal_small Unsettled = omega arith
refusal_small UnknownNumber = omega arith
refusal_small Nothing = omega arith
refusal_small NoSuchLink = omega arith
refusal_small Finished = omega arith

refusal_again : (why : SetRefusal) → refusal_in (refusal_number why) ≡ Some why
refusal_again TooShort = refl
refusal_again TooLong = refl
refusal_again Reserved = refl
refusal_again StreamFull = refl
refusal_again NotUp = refl
refusal_again NotDown = refl
refusal_again Unsettled = refl
refusal_again UnknownNumber = refl
refusal_again Nothing = refl
refusal_again NoSuchLink = refl
refusal_again Finished = refl

-- the check octets stand behind the octets
octets_more : (os : List ℕ) (low high : ℕ) → AreOctets os → low < 2 ^ 8 → high < 2 ^ 8 → AreOctets (os ++ low ∷ high ∷ [])
octets_more os low high h p q = All-append (λ octet. octet < 2 ^ 8) os (low ∷ high ∷ []) h (two low high p q)
  where
    two : (low high : ℕ) → low < 2 ^ 8 → high < 2 ^ 8 → AreOctets (low ∷ high ∷ [])
    two low high p q zero d l = p
    two low high p q (suc zero) d l = q
    two low high p q (suc (suc k)) d l = absurd (omega (arith, l))

without_two : (os : List ℕ) (low high : ℕ) → take (length (os ++ low ∷ high ∷ []) - 2) (os ++ low ∷ high ∷ []) ≡ os
without_two os low high = grind (arith, common_steps)

sent_back : (p : Profile) → UnitsHaveOneText p → (unit : SignalUnit) (more : List ℕ) → IsOnLine p unit → told_in p (answer_text p (Sent unit) ++ more) ≡ Some (Sent unit)
sent_back p law unit more h =
    let sealed = sealed_meets_check (text p unit) in
    let octets = text p unit ++ sealed.low ∷ sealed.high ∷ [] in
    let fit = octets_more (text p unit) sealed.low sealed.high h.1 sealed.low_in_range sealed.high_in_range in
    ap (λ (os : List ℕ). told_in p (sent_line os ++ more)) (on_line p unit h.0)
    ∙ ap (λ (l : List ℕ). told_in p (codes "sent " ++ ((hex_text l ++ codes "\n") ++ more))) sealed.followed
    ∙ ap (λ (l : List ℕ). told_in p (codes "sent " ++ l)) (append_assoc (hex_text octets) (codes "\n") more)
    ∙ ap (λ (o : Option (List ℕ)). option_and_then (λ (octets : List ℕ). option_map Sent (unit_of p (take (length octets - 2) octets))) o) (octets_read octets 10 more fit refl)
    ∙ ap (λ (octets : List ℕ). option_map Sent (unit_of p octets)) (without_two (text p unit) sealed.low sealed.high)
    ∙ ap (option_map Sent) (unit_again p law unit h)

taken_back : (p : Profile) (body more : List ℕ) → AreOctets body → length body ≤ 273 → told_in p (answer_text p (Taken (record { items = body })) ++ more) ≡ Some (Taken (record { items = body }))
taken_back p body more h short =
    let fits : nat_le (length body) 273 ≡ true = grind (arith, nat_tests) in
    ap (λ (l : List ℕ). told_in p (codes "taken " ++ l)) (append_assoc (hex_text body) (codes "\n") more)
    ∙ ap (λ (o : Option (List ℕ)). option_and_then (λ (octets : List ℕ). if nat_le (length octets) 273 then Some (Taken (record { items = octets })) else None) o) (octets_read body 10 more h refl)
    ∙ rw fits refl

-- The words of a report, from each on.

abbrev fault_on : Option ControlFault → List ℕ → List ℕ
fault_on fault more = codes "fault=" ++ (decimal (fault_code fault) ++ 10 ∷ more)

abbrev resend_on : Bool → Option ControlFault → List ℕ → List ℕ
resend_on resend fault more = codes "resend=" ++ (decimal (bit resend) ++ 32 ∷ fault_on fault more)

abbrev asked_on : Bool → Bool → Option ControlFault → List ℕ → List ℕ
asked_on asked resend fault more = codes "asked=" ++ (decimal (bit asked) ++ 32 ∷ resend_on resend fault more)

abbrev took_on : Took → Bool → Bool → Option ControlFault → List ℕ → List ℕ
took_on took asked resend fault more = codes "took=" ++ (took_text took ++ 32 ∷ asked_on asked resend fault more)

abbrev acked_on : Report → List ℕ → List ℕ
acked_on r more = codes "acked=" ++ (decimal r.acked ++ 32 ∷ took_on r.took r.asked r.resend r.fault more)

took_value : (took : Took) (more : List ℕ) → took_in (value (codes "took=" ++ (took_text took ++ 32 ∷ more))) ≡ Some took
took_value TookNothing more = refl
took_value Message more = refl
took_value Order more = refl
took_value Ignored more = refl

took_others : (took : Took) (more : List ℕ) → others (codes "took=" ++ (took_text took ++ 32 ∷ more)) ≡ more
took_others TookNothing more = refl
took_others Message more = refl
took_others Order more = refl
took_others Ignored more = refl

asked_value : (b : Bool) (more : List ℕ) → yes_in (value (codes "asked=" ++ (decimal (bit b) ++ 32 ∷ more))) ≡ b
asked_value true more = ap (λ (d : List ℕ). yes_in (value (codes "asked=" ++ (d ++ 32 ∷ more)))) (decimal_digit 1 (omega arith))
asked_value false more = ap (λ (d : List ℕ). yes_in (value (codes "asked=" ++ (d ++ 32 ∷ more)))) (decimal_digit 0 (omega arith))

resend_value : (b : Bool) (more : List ℕ) → yes_in (value (codes "resend=" ++ (decimal (bit b) ++ 32 ∷ more))) ≡ b
resend_value true more = ap (λ (d : List ℕ). yes_in (value (codes "resend=" ++ (d ++ 32 ∷ more)))) (decimal_digit 1 (omega arith))
resend_value false more = ap (λ (d : List ℕ). yes_in (value (codes "resend=" ++ (d ++ 32 ∷ more)))) (decimal_digit 0 (omega arith))

fault_value : (fault : Option ControlFault) (more : List ℕ) → fault_in (value (fault_on fault more)) ≡ fault
fault_value None more = ap (λ (d : List ℕ). fault_in (value (codes "fault=" ++ (d ++ 10 ∷ more)))) (decimal_digit 0 (omega arith))
fault_value (Some Bsn) more = ap (λ (d : List ℕ). fault_in (value (codes "fault=" ++ (d ++ 10 ∷ more)))) (decimal_digit 2 (omega arith))
fault_value (Some Fib) more = ap (λ (d : List ℕ). fault_in (value (codes "fault=" ++ (d ++ 10 ∷ more)))) (decimal_digit 3 (omega arith))

bit_small : (b : Bool) → bit b < 2 ^ 64
bit_small true = omega arith
bit_small false = omega arith

-- a report of what was read, if it was
abbrev built : Option ℕ → Option Took → Bool → Bool → Option ControlFault → Option Answer
built acked took asked resend fault =
    option_and_then (λ a. option_map (λ t. Heard (record { acked = a; took = t; asked = asked; resend = resend; fault = fault })) took) acked

acked_read : (n g : ℕ) (more : List ℕ) → n < 2 ^ 16 → is_gap g ≡ true → acked_in (word (decimal n ++ g ∷ more)) ≡ Some n
acked_read n g more h e =
    let wide : n < 2 ^ 64 = omega (arith, h) in
    ap acked_in (number_word n g more wide e) ∙ below_again (2 ^ 16) n h wide

report_read : (r : Report) (more : List ℕ) → r.acked < 2 ^ 16 → heard_in (acked_on r more) ≡ Some (Heard r)
report_read r more h =
    let m = took_on r.took r.asked r.resend r.fault more in
    let n = asked_on r.asked r.resend r.fault more in
    let o = resend_on r.resend r.fault more in
    let p = fault_on r.fault more in
    ap (λ (l : List ℕ). built (acked_in (value (acked_on r more))) (took_in (value l)) (yes_in (value (others l))) (yes_in (value (others (others l)))) (fault_in (value (others (others (others l)))))) (number_others r.acked 32 m (omega (arith, h)) refl)
    ∙ ap (λ (a : Option ℕ). built a (took_in (value m)) (yes_in (value (others m))) (yes_in (value (others (others m)))) (fault_in (value (others (others (others m)))))) (acked_read r.acked 32 m h refl)
    ∙ ap (λ (t : Option Took). built (Some r.acked) t (yes_in (value (others m))) (yes_in (value (others (others m)))) (fault_in (value (others (others (others m)))))) (took_value r.took n)
    ∙ ap (λ (l : List ℕ). built (Some r.acked) (Some r.took) (yes_in (value l)) (yes_in (value (others l))) (fault_in (value (others (others l))))) (took_others r.took n)
    ∙ ap (λ (b : Bool). built (Some r.acked) (Some r.took) b (yes_in (value (others n))) (fault_in (value (others (others n))))) (asked_value r.asked o)
    ∙ ap (λ (l : List ℕ). built (Some r.acked) (Some r.took) r.asked (yes_in (value l)) (fault_in (value (others l)))) (number_others (bit r.asked) 32 o (bit_small r.asked) refl)
    ∙ ap (λ (b : Bool). built (Some r.acked) (Some r.took) r.asked b (fault_in (value (others o)))) (resend_value r.resend p)
    ∙ ap (λ (l : List ℕ). built (Some r.acked) (Some r.took) r.asked r.resend (fault_in (value l))) (number_others (bit r.resend) 32 p (bit_small r.resend) refl)
    ∙ ap (λ (f : Option ControlFault). built (Some r.acked) (Some r.took) r.asked r.resend f) (fault_value r.fault more)

-- a report's text with what stands behind it
report_front : (r : Report) (more : List ℕ) → report_text r ++ more ≡ codes "heard " ++ acked_on r more
report_front r more =
    let fault = decimal (fault_code r.fault) in
    let resend = decimal (bit r.resend) in
    let asked = decimal (bit r.asked) in
    let a : (fault ++ codes "\n") ++ more ≡ fault ++ 10 ∷ more = append_assoc fault (codes "\n") more in
    let b : (resend ++ (codes " fault=" ++ (fault ++ codes "\n"))) ++ more ≡ resend ++ 32 ∷ fault_on r.fault more =
    append_assoc resend (codes " fault=" ++ (fault ++ codes "\n")) more ∙ ap (λ (l : List ℕ). resend ++ (codes " fault=" ++ l)) a in
    let c : (asked ++ (codes " resend=" ++ (resend ++ (codes " fault=" ++ (fault ++ codes "\n"))))) ++ more ≡ asked ++ 32 ∷ resend_on r.resend r.fault more =
    append_assoc asked (codes " resend=" ++ (resend ++ (codes " fault=" ++ (fault ++ codes "\n")))) more ∙ ap (λ (l : List ℕ). asked ++ (codes " resend=" ++ l)) b in
    let rest = codes " asked=" ++ (asked ++ (codes " resend=" ++ (resend ++ (codes " fault=" ++ (fault ++ codes "\n"))))) in
    let d : (took_text r.took ++ rest) ++ more ≡ took_text r.took ++ 32 ∷ asked_on r.asked r.resend r.fault more =
    append_assoc (took_text r.took) rest more ∙ ap (λ (l : List ℕ). took_text r.took ++ (codes " asked=" ++ l)) c in
    ap (λ (l : List ℕ). codes "heard acked=" ++ l) (append_assoc (decimal r.acked) (codes " took=" ++ (took_text r.took ++ rest)) more
    ∙ ap (λ (l : List ℕ). decimal r.acked ++ (codes " took=" ++ l)) d)

told_back : (p : Profile) → UnitsHaveOneText p → (answer : Answer) (more : List ℕ) → AnswerFits p answer → told_in p (answer_text p answer ++ more) ≡ Some answer
told_back p law (Accepted n) more h =
    ap (λ (l : List ℕ). told_in p (codes "accepted " ++ l)) (append_assoc (decimal n) (codes "\n") more) ∙ ap (option_map Accepted) (number_read n 10 more h refl)
told_back p law (Taken body) more h = taken_back p body.items more h.0 h.1
told_back p law (Found fate) more h = fate_back p fate more h
told_back p law (Sent unit) more h = sent_back p law unit more h
told_back p law (Heard r) more h = ap (told_in p) (report_front r more) ∙ report_read r more h
told_back p law Done more h = refl
told_back p law (Refused why) more h =
    ap (λ (l : List ℕ). told_in p (codes "refused " ++ l)) (append_assoc (decimal (refusal_number why)) (codes "\n") more)
    ∙ ap (λ (o : Option ℕ). option_map Refused (option_and_then refusal_in o)) (number_read (refusal_number why) 10 more (refusal_small why) refl)
    ∙ ap (option_map Refused) (refusal_again why)

-- No arrow stands before the answer's.

skip_numbered : (words : List ℕ) (n : ℕ) (more : List ℕ) → passes is_arrow words ≡ true → n < 2 ^ 64 → behind is_arrow (numbered words n ++ more) ≡ behind is_arrow more
skip_numbered words n more p h =
    ap (behind is_arrow) (numbered_front words n more)
    ∙ behind_passed is_arrow words (decimal n ++ 32 ∷ more) p
    ∙ behind_passed is_arrow (decimal n) (32 ∷ more) (number_no_arrow n h)

skip_octets : (os more : List ℕ) → AreOctets os → behind is_arrow ((hex_text os ++ codes " ") ++ more) ≡ behind is_arrow more
skip_octets os more h = ap (behind is_arrow) (append_assoc (hex_text os) (codes " ") more) ∙ behind_passed is_arrow (hex_text os) (32 ∷ more) (octets_no_arrow os h)

wide : (n : ℕ) → n < 2 ^ 8 → n < 2 ^ 64
wide n h = omega (arith, h)

skip_actor : (who : Actor) (more : List ℕ) → ActorFits who → behind is_arrow (actor_text who ++ more) ≡ behind is_arrow more
skip_actor (User n) more h = skip_numbered (codes "user ") n more refl (omega (arith, h))
skip_actor (Terminal n) more h = skip_numbered (codes "terminal ") n more refl (wide n h)

skip_event : (p : Profile) (event : Event) (more : List ℕ) → EventFits p event → behind is_arrow (event_text p event ++ more) ≡ behind is_arrow more
skip_event p (Offer []) more h = refl
skip_event p (Offer (o ∷ os)) more h = skip_octets (o ∷ os) more h
skip_event p Take more h = refl
skip_event p (Find n) more h = skip_numbered (codes "find ") n more refl h
skip_event p (Next n) more h = skip_numbered (codes "next ") n more refl (wide n h)
skip_event p (Hear n unit) more h =
    ap (λ (os : List ℕ). behind is_arrow ((numbered (codes "hear ") n ++ (hex_text os ++ codes " ")) ++ more)) (on_line p unit h.1.0)
    ∙ ap (behind is_arrow) (append_assoc (numbered (codes "hear ") n) (hex_text (text p unit) ++ codes " ") more)
    ∙ skip_numbered (codes "hear ") n ((hex_text (text p unit) ++ codes " ") ++ more) refl (wide n h.0)
    ∙ skip_octets (text p unit) more h.1.1
skip_event p (Up n) more h = skip_numbered (codes "up ") n more refl (wide n h)
skip_event p (Down n) more h = skip_numbered (codes "down ") n more refl (wide n h)
skip_event p (DownBlind n) more h = skip_numbered (codes "blind ") n more refl (wide n h)
skip_event p (NoAnswer n) more h = skip_numbered (codes "noanswer ") n more refl (wide n h)
skip_event p (Timed n) more h = skip_numbered (codes "timed ") n more refl (wide n h)
skip_event p (Restore n) more h = skip_numbered (codes "restore ") n more refl (wide n h)
skip_event p (Redeclare n) more h = skip_numbered (codes "redeclare ") n more refl (wide n h)
skip_event p (BackTimeout n) more h = skip_numbered (codes "backtimeout ") n more refl (wide n h)
skip_event p (Test n) more h = skip_numbered (codes "test ") n more refl (wide n h)

-- The entry.

all_three : (p : Profile) (line : List ℕ) (who : Actor) (event : Event) (answer : Answer) → actor_in (word line) (word (others line)) ≡ Some who → asked_in p (others (others line)) ≡ Some event → told_in p (told line) ≡ Some answer
    → entry_in p line ≡ Some (record { who = who; event = event; answer = answer })
all_three p line who event answer w e a = rw (w, e, a) refl

-- the text of an entry with what stands behind it
front : (p : Profile) (entry : Entry) (more : List ℕ) → entry_text p entry ++ more ≡ actor_text entry.who ++ (event_text p entry.event ++ (codes "-> " ++ (answer_text p entry.answer ++ more)))
front p entry more =
    append_assoc (actor_text entry.who) (event_text p entry.event ++ (codes "-> " ++ answer_text p entry.answer)) more
    ∙ ap (λ (l : List ℕ). actor_text entry.who ++ l) (append_assoc (event_text p entry.event) (codes "-> " ++ answer_text p entry.answer) more)

-- whatever stands behind the text of an entry, the words at its front p tell that entry
pub front_back : (p : Profile) → UnitsHaveOneText p → (entry : Entry) (more : List ℕ) → EntryFits p entry → entry_in p (entry_text p entry ++ more) ≡ Some entry
front_back p law entry more fits =
    let told_text = answer_text p entry.answer ++ more in
    let answer = codes "-> " ++ told_text in
    let asked = event_text p entry.event ++ answer in
    ap (entry_in p) (front p entry more)
    ∙ all_three p (actor_text entry.who ++ asked) entry.who entry.event entry.answer
    (actor_back entry.who asked fits.who)
    (ap (asked_in p) (behind_actor entry.who asked fits.who) ∙ asked_back p law entry.event told_text fits.event)
    (ap (λ (l : List ℕ). told_in p (others l)) (skip_actor entry.who asked fits.who ∙ skip_event p entry.event answer fits.event) ∙ told_back p law entry.answer more fits.answer)

read_back : (p : Profile) → UnitsHaveOneText p → (entry : Entry) → EntryFits p entry → entry_in p (entry_text p entry) ≡ Some entry
read_back p law entry fits = ap (entry_in p) (sym (append-nil (entry_text p entry))) ∙ front_back p law entry [] fits

-- the words of a line that is an entry's text tell that entry
pub words_tell : (p : Profile) → UnitsHaveOneText p → (line : List ℕ) (entry : Entry) → EntryFits p entry → entry_text p entry ≡ line → entry_in p line ≡ Some entry
words_tell p law line entry fits is = ap (entry_in p) (sym is) ∙ read_back p law entry fits

-- a line that is an entry's text is read as that entry
pub only_entry : (p : Profile) → UnitsHaveOneText p → (line : List ℕ) (entry : Entry) → EntryFits p entry → entry_text p entry ≡ line → entry_of p line ≡ Some entry
only_entry p law line entry fits is =
    ap (option_and_then (λ e. if bytes_eq (entry_text p e) line then Some e else None)) (words_tell p law line entry fits is)
    ∙ ap (λ b. if b then Some entry else None) ((bytes_eq-Decides (entry_text p entry) line).1 is)

text_if : (p : Profile) (line : List ℕ) (entry e : Entry) (b : Bool) → bytes_eq (entry_text p e) line ≡ b → Some entry ≡ (if b then Some e else None) → entry_text p entry ≡ line
text_if p line entry e true h is = ap (entry_text p) (cc is) ∙ (bytes_eq-Decides (entry_text p e) line).0 h
text_if p line entry e false h is = cc is

text_from : (p : Profile) (line : List ℕ) (entry : Entry) (o : Option Entry) → Some entry ≡ option_and_then (λ e. if bytes_eq (entry_text p e) line then Some e else None) o → entry_text p entry ≡ line
text_from p line entry None is = cc is
text_from p line entry (Some e) is = text_if p line entry e (bytes_eq (entry_text p e) line) refl is

-- the entry that is read of a line has this text
pub read_has_text : (p : Profile) (line : List ℕ) (entry : Entry) → Some entry ≡ entry_of p line → entry_text p entry ≡ line
read_has_text p line entry is = text_from p line entry (entry_in p line) is

pub one_entry_each : (p : Profile) → UnitsHaveOneText p → (a b : Entry) → EntryFits p a → EntryFits p b → entry_text p a ≡ entry_text p b → a ≡ b
one_entry_each p law a b f g e = let same : Some a ≡ Some b = sym (read_back p law a f) ∙ words_tell p law (entry_text p a) b g (sym e) in cc same

-- Lists of entries.

some_text : (who : Actor) (more : List ℕ) → 0 < length (actor_text who ++ more)
some_text (User n) more = omega arith
some_text (Terminal n) more = omega arith

entry_not_empty : (p : Profile) (entry : Entry) (more : List ℕ) → [] ≡ entry_text p entry ++ more → ⊥
entry_not_empty p entry more e =
    let none : length (entry_text p entry ++ more) ≡ 0 = ap length (sym e) in
    let some : 0 < length (actor_text entry.who ++ (event_text p entry.event ++ (codes "-> " ++ (answer_text p entry.answer ++ more)))) = some_text entry.who (event_text p entry.event ++ (codes "-> " ++ (answer_text p entry.answer ++ more))) in
    let same = ap length (front p entry more) in
    absurd (omega (arith, none, some, same))

first_same : (p : Profile) → UnitsHaveOneText p → (a b : Entry) (xs ys : List ℕ) → EntryFits p a → EntryFits p b → entry_text p a ++ xs ≡ entry_text p b ++ ys → a ≡ b
first_same p law a b xs ys f g e = let same : Some a ≡ Some b = sym (front_back p law a xs f) ∙ ap (entry_in p) e ∙ front_back p law b ys g in cc same

pub one_history_each : (p : Profile) → UnitsHaveOneText p → (a b : List Entry) → EntriesFit p a → EntriesFit p b → entries_text p a ≡ entries_text p b → a ≡ b
one_history_each p law [] [] f g e = refl
one_history_each p law [] (b ∷ ys) f g e = absurd (entry_not_empty p b (entries_text p ys) e)
one_history_each p law (a ∷ xs) [] f g e = absurd (entry_not_empty p a (entries_text p xs) (sym e))
one_history_each p law (a ∷ xs) (b ∷ ys) f g e =
    let same = first_same p law a b (entries_text p xs) (entries_text p ys) f.0 g.0 e in
    let again : entry_text p a ++ entries_text p xs ≡ entry_text p a ++ entries_text p ys = e ∙ ap (λ (x : Entry). entry_text p x ++ entries_text p ys) (sym same) in
    let left = append_cancel_left (entry_text p a) (entries_text p xs) (entries_text p ys) again in
    ap (λ (x : Entry). x ∷ xs) same ∙ ap (λ (rest : List Entry). b ∷ rest) (one_history_each p law xs ys f.1 g.1 left)
