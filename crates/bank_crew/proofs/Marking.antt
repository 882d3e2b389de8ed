-- Each entry has its mark, one after another.
use Rattle.std.proofs.Common.{refl, arith, ◌≡◌, ◌∙◌, ap, ap₂, sym, ◌&&◌, ◌+◌, ℕ, zero, suc, Bool, true, false, List, [], ◌∷◌, ◌++◌, length}
use Rattle.std.specs.Prelude.{if◌then◌else◌}
use Rattle.set_events.specs.declared.answer.Answer.{Answer}
use Rattle.set_events.specs.declared.event.Actor.{Actor}
use Rattle.set_events.specs.declared.event.Actor.TheVariants.{Terminal}
use Rattle.set_events.specs.declared.event.Event.{Event}
use Rattle.set_events.specs.declared.fault.SetFault.{SetFault}
use Rattle.set_events.specs.declared.history.Entry.{Entry}
use Rattle.bank_crew.specs.Seats.{link_in}
use Rattle.bank_crew.specs.declared.manager.Sight.{Sight}
use Rattle.bank_crew.specs.Managing.{Look, are_marks, is_question, look_by, look_mark, looks_from, looks_in, mark_of, of_turns, turns_mark}
use Rattle.bank_crew.specs.Shifts.{look_of}

both_true : (a b : Bool) → a ≡ true → b ≡ true → (a && b) ≡ true
both_true true b p q = q
both_true false b p q = p

first_true : (a b : Bool) → (a && b) ≡ true → a ≡ true
first_true true b p = refl
first_true false b p = p

rest_true : (a b : Bool) → (a && b) ≡ true → b ≡ true
rest_true true b p = p
rest_true false b p = absurd (cc p)

-- SOME ENTRIES, AND MORE
module _ (link : ℕ) (marks' : List ℕ) (entries' : List Entry) where
  pub marks_joined : are_marks link marks' entries' ≡ true → (marks : List ℕ) (entries : List Entry) → are_marks link marks entries ≡ true
      → are_marks link (marks ++ marks') (entries ++ entries') ≡ true
  marks_joined more [] [] all = more
  marks_joined more [] (e ∷ entries) all = absurd (cc all)
  marks_joined more (zero ∷ marks) [] all = absurd (cc all)
  marks_joined more (zero ∷ marks) (e ∷ entries) all =
      let rest = rest_true (is_question link e.event) (are_marks link marks entries) all in
      both_true (is_question link e.event) (are_marks link (marks ++ marks') (entries ++ entries'))
      (first_true (is_question link e.event) (are_marks link marks entries) all) (marks_joined more marks entries rest)
  marks_joined more (suc zero ∷ marks) [] all = absurd (cc all)
  marks_joined more (suc zero ∷ marks) (e ∷ entries) all = marks_joined more marks entries all
  marks_joined more (suc (suc zero) ∷ marks) [] all = absurd (cc all)
  marks_joined more (suc (suc zero) ∷ marks) (e ∷ entries) all = marks_joined more marks entries all
  marks_joined more (suc (suc (suc m)) ∷ marks) entries all = marks_joined more marks entries all

  pub turns_joined : (marks : List ℕ) (entries : List Entry) → are_marks link marks entries ≡ true
      → of_turns (marks ++ marks') (entries ++ entries') ≡ of_turns marks entries ++ of_turns marks' entries'
  turns_joined [] [] all = refl
  turns_joined [] (e ∷ entries) all = absurd (cc all)
  turns_joined (zero ∷ marks) [] all = absurd (cc all)
  turns_joined (zero ∷ marks) (e ∷ entries) all = turns_joined marks entries (rest_true (is_question link e.event) (are_marks link marks entries) all)
  turns_joined (suc zero ∷ marks) [] all = absurd (cc all)
  turns_joined (suc zero ∷ marks) (e ∷ entries) all = ap (λ (es : List Entry). e ∷ es) (turns_joined marks entries all)
  turns_joined (suc (suc zero) ∷ marks) [] all = absurd (cc all)
  turns_joined (suc (suc zero) ∷ marks) (e ∷ entries) all = ap (λ (es : List Entry). e ∷ es) (turns_joined marks entries all)
  turns_joined (suc (suc (suc m)) ∷ marks) entries all = turns_joined marks entries all

-- one entry more
one_marked : (link : ℕ) (entry : Entry) (of_turn late : Bool) → (of_turn ≡ false → is_question link entry.event ≡ true)
    → are_marks link (mark_of of_turn late ∷ []) (entry ∷ []) ≡ true
one_marked link entry true true asked = refl
one_marked link entry true false asked = refl
one_marked link entry false late asked = both_true (is_question link entry.event) true (asked refl) refl

pub marks_more : (link : ℕ) (entries : List Entry) (marks : List ℕ) (entry : Entry) (of_turn late : Bool) → are_marks link marks entries ≡ true
    → (of_turn ≡ false → is_question link entry.event ≡ true) → are_marks link (marks ++ mark_of of_turn late ∷ []) (entries ++ entry ∷ []) ≡ true
marks_more link entries marks entry of_turn late all asked =
    marks_joined link (mark_of of_turn late ∷ []) (entry ∷ []) (one_marked link entry of_turn late asked) marks entries all

-- or a look
none_more : (entries : List Entry) → entries ≡ entries ++ []
none_more [] = refl
none_more (e ∷ entries) = ap (λ (es : List Entry). e ∷ es) (none_more entries)

-- the mark of a look, whatever it saw
abbrev code : Bool → Bool → Bool → ℕ
code out settled late = (if out then 4 else 0) + ((if settled then 2 else 0) + (if late then 1 else 0))

none_marked : (link : ℕ) (out settled late : Bool) → are_marks link ((3 + code out settled late) ∷ []) [] ≡ true
none_marked link true true true = refl
none_marked link true true false = refl
none_marked link true false true = refl
none_marked link true false false = refl
none_marked link false true true = refl
none_marked link false true false = refl
none_marked link false false true = refl
none_marked link false false false = refl

no_turn : (out settled late : Bool) → of_turns ((3 + code out settled late) ∷ []) [] ≡ []
no_turn true true true = refl
no_turn true true false = refl
no_turn true false true = refl
no_turn true false false = refl
no_turn false true true = refl
no_turn false true false = refl
no_turn false false true = refl
no_turn false false false = refl

module _ (link : ℕ) (entries : List Entry) (marks : List ℕ) (out : Bool) (sight : Sight) (all : are_marks link marks entries ≡ true) where
  pub marks_looked : are_marks link (marks ++ look_mark out sight ∷ []) entries ≡ true
  marks_looked =
      ap (are_marks link (marks ++ look_mark out sight ∷ [])) (none_more entries)
      ∙ marks_joined link (look_mark out sight ∷ []) [] (none_marked link out sight.settled sight.late) marks entries all

  pub turns_looked : of_turns (marks ++ look_mark out sight ∷ []) entries ≡ of_turns marks entries
  turns_looked =
      ap (of_turns (marks ++ look_mark out sight ∷ [])) (none_more entries) ∙ turns_joined link (look_mark out sight ∷ []) [] marks entries all
      ∙ ap (λ (es : List Entry). of_turns marks entries ++ es) (no_turn out sight.settled sight.late) ∙ sym (none_more (of_turns marks entries))

-- A LOOK BY ITS MARK is what was seen
one_look : (made : ℕ) (out settled late : Bool) → looks_from made ((3 + code out settled late) ∷ []) ≡ record { made = made; out = out; settled = settled; late = late } ∷ []
one_look made true true true = refl
one_look made true true false = refl
one_look made true false true = refl
one_look made true false false = refl
one_look made false true true = refl
one_look made false true false = refl
one_look made false false true = refl
one_look made false false false = refl

-- ALL LOOKS, of some marks and more
looks_joined : (link : ℕ) (marks' marks : List ℕ) (entries : List Entry) (made : ℕ) → are_marks link marks entries ≡ true
    → looks_from made (marks ++ marks') ≡ looks_from made marks ++ looks_from (made + length (of_turns marks entries)) marks'
looks_joined link marks' [] [] made all = ap (λ (n : ℕ). looks_from n marks') (omega arith)
looks_joined link marks' [] (e ∷ entries) made all = absurd (cc all)
looks_joined link marks' (zero ∷ marks) [] made all = absurd (cc all)
looks_joined link marks' (zero ∷ marks) (e ∷ entries) made all =
    looks_joined link marks' marks entries made (rest_true (is_question link e.event) (are_marks link marks entries) all)
looks_joined link marks' (suc zero ∷ marks) [] made all = absurd (cc all)
looks_joined link marks' (suc zero ∷ marks) (e ∷ entries) made all =
    looks_joined link marks' marks entries (suc made) all ∙ ap (λ (n : ℕ). looks_from (suc made) marks ++ looks_from n marks') (omega arith)
looks_joined link marks' (suc (suc zero) ∷ marks) [] made all = absurd (cc all)
looks_joined link marks' (suc (suc zero) ∷ marks) (e ∷ entries) made all =
    looks_joined link marks' marks entries (suc made) all ∙ ap (λ (n : ℕ). looks_from (suc made) marks ++ looks_from n marks') (omega arith)
looks_joined link marks' (suc (suc (suc m)) ∷ marks) entries made all =
    ap (λ (looks : List Look). look_by made m ∷ looks) (looks_joined link marks' marks entries made all)

pub looks_more : (link : ℕ) (entries : List Entry) (marks : List ℕ) (out : Bool) (sight : Sight) → are_marks link marks entries ≡ true
    → looks_in (marks ++ look_mark out sight ∷ []) ≡ looks_in marks ++ look_of (length (of_turns marks entries)) out sight ∷ []
looks_more link entries marks out sight all =
    let many = length (of_turns marks entries) in
    let all_of : 0 + many ≡ many = omega arith in
    looks_joined link (look_mark out sight ∷ []) marks entries 0 all
    ∙ ap (λ (n : ℕ). looks_from 0 marks ++ looks_from n (look_mark out sight ∷ [])) all_of
    ∙ ap (λ (looks : List Look). looks_from 0 marks ++ looks) (one_look many out sight.settled sight.late)

-- no entry is a look
looks_stay : (mark : ℕ) → ((made : ℕ) → looks_from made (mark ∷ []) ≡ []) → (made : ℕ) (marks : List ℕ) → looks_from made (marks ++ mark ∷ []) ≡ looks_from made marks
looks_stay mark none made [] = none made
looks_stay mark none made (zero ∷ marks) = looks_stay mark none made marks
looks_stay mark none made (suc zero ∷ marks) = looks_stay mark none (suc made) marks
looks_stay mark none made (suc (suc zero) ∷ marks) = looks_stay mark none (suc made) marks
looks_stay mark none made (suc (suc (suc m)) ∷ marks) = ap (λ (looks : List Look). look_by made m ∷ looks) (looks_stay mark none made marks)

pub looks_asked : (marks : List ℕ) → looks_in (marks ++ 0 ∷ []) ≡ looks_in marks
looks_asked marks = looks_stay 0 (λ made. refl) 0 marks

no_look : (late : Bool) (made : ℕ) → looks_from made (turns_mark late ∷ []) ≡ []
no_look true made = refl
no_look false made = refl

pub looks_turned : (late : Bool) (marks : List ℕ) → looks_in (marks ++ turns_mark late ∷ []) ≡ looks_in marks
looks_turned late marks = looks_stay (turns_mark late) (no_look late) 0 marks

-- A TURN'S ENTRY is one more of those of turns, and a question isn't.
turn_alone : (late : Bool) (entry : Entry) → of_turns (turns_mark late ∷ []) (entry ∷ []) ≡ entry ∷ []
turn_alone true entry = refl
turn_alone false entry = refl

pub turn_more : (link : ℕ) (entries : List Entry) (marks : List ℕ) (entry : Entry) (late : Bool) → are_marks link marks entries ≡ true
    → of_turns (marks ++ turns_mark late ∷ []) (entries ++ entry ∷ []) ≡ of_turns marks entries ++ entry ∷ []
turn_more link entries marks entry late all =
    turns_joined link (turns_mark late ∷ []) (entry ∷ []) marks entries all ∙ ap (λ (es : List Entry). of_turns marks entries ++ es) (turn_alone late entry)

pub question_more : (link : ℕ) (entries : List Entry) (marks : List ℕ) (entry : Entry) → are_marks link marks entries ≡ true
    → of_turns (marks ++ 0 ∷ []) (entries ++ entry ∷ []) ≡ of_turns marks entries
question_more link entries marks entry all = turns_joined link (0 ∷ []) (entry ∷ []) marks entries all ∙ sym (none_more (of_turns marks entries))

-- A STEP with what level 3 asked behind it
pub stepped : (who : Actor) (event : Event) (answer : Answer) (late : Bool) (old mid new : List Entry) (marks marks' marks'' : List ℕ) (faults faults'' : List SetFault)
    → mid ≡ old ++ record { who = who; event = event; answer = answer } ∷ [] → marks' ≡ marks ++ turns_mark late ∷ []
    → of_turns marks'' new ≡ of_turns marks' mid → are_marks (link_in who) marks old ≡ true → who ≡ Terminal (link_in who) → faults'' ≡ faults
    → (of_turns marks'' new ≡ of_turns marks old ++ record { who = Terminal (link_in who); event = event; answer = answer } ∷ []) × (faults'' ≡ faults)
stepped who event answer late old mid new marks marks' marks'' faults faults'' made is_marked after all is_link quiet = (
  after ∙ ap₂ of_turns is_marked made ∙ turn_more (link_in who) old marks (record { who = who; event = event; answer = answer }) late all
      ∙ ap (λ (w : Actor). of_turns marks old ++ record { who = w; event = event; answer = answer } ∷ []) is_link,
  quiet,
)

-- and a question of level 3
pub questioned : (who : Actor) (event : Event) (answer : Answer) (old new : List Entry) (marks marks' : List ℕ)
    → new ≡ old ++ record { who = who; event = event; answer = answer } ∷ [] → marks' ≡ marks ++ 0 ∷ [] → are_marks (link_in who) marks old ≡ true
    → of_turns marks' new ≡ of_turns marks old
questioned who event answer old new marks marks' made is_marked all =
    ap₂ of_turns is_marked made ∙ question_more (link_in who) old marks (record { who = who; event = event; answer = answer }) all

-- no entries, none of turns
pub none_of_turns : (entries : List Entry) (marks : List ℕ) → marks ≡ [] → of_turns marks entries ≡ []
none_of_turns entries marks empty = ap (λ (ms : List ℕ). of_turns ms entries) empty
