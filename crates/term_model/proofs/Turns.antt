-- A turn and its steps.
use Rattle.std.proofs.Common.{refl, sym, ap, subst, ◌≡◌, ◌∙◌, ◌⊎◌, inl, inr, ℕ, Bool, true, false, List, ◌++◌, append_assoc, Option, Some, None}
use Rattle.l2_bits.specs.declared.marks.Mark.{Mark}
use Rattle.l2_bits.specs.Flags.{flag}
use Rattle.l2_bits.specs.LineBits.{line_bits}
use Rattle.l2_bits.specs.SealedText.{sealed_text}
use Rattle.l2_bits.proofs.StuffingLemmas.{one_text, has_text}
use Rattle.l2_bits.proofs.MarkLemmas.{marks_alone}
use Rattle.l2_units.specs.declared.unit.Unit.{Unit as SignalUnit}
use Rattle.l2_units.specs.Grammar.{text}
use Rattle.l2_units.specs.declared.profile.Profile.TheVariants.{Narrow}
use Rattle.set_events.specs.declared.answer.Answer.{Answer}
use Rattle.set_events.specs.declared.event.Actor.{Actor}
use Rattle.set_events.specs.declared.event.Event.{Event}
use Rattle.set_events.specs.declared.history.Entry.{Entry}
use Rattle.term_model.specs.Choosing.{Filled, filled}
use Rattle.term_model.specs.Hearing.{all_marked}
use Rattle.term_model.specs.Obeying.{commanded}
use Rattle.term_model.specs.OctetIn.{bits_in, GivesMarks}
use Rattle.term_model.specs.OctetOut.{Appends, PutsOctet, put_of, left_of}
use Rattle.term_model.specs.Talk.{and_then, Went}
use Rattle.term_model.specs.Terminal.{Terminal}
use Rattle.term_model.specs.Timing.{timed}
use Rattle.term_model.specs.Turn.{turn_talk, IsTurn}
use Rattle.term_model.specs.TalkLaws.{GoesBy}
use Rattle.term_model.specs.TurnLaws.{IsSixSteps, HasTurn, HasWideTurn}
use Rattle.term_model.proofs.Talks.{joins, splits, one_outcome, always_goes}

four_parts : (a b c d later last all : List Entry) → all ≡ a ++ later → later ≡ b ++ last → last ≡ c ++ d → all ≡ a ++ b ++ c ++ d
four_parts a b c d later last all first second third =
    first ∙ ap (λ rest. a ++ rest) (second ∙ ap (λ rest. b ++ rest) third) ∙ sym (append_assoc a b (c ++ d)) ∙ sym (append_assoc (a ++ b) c d)

steps_of : (taken : List Bool) (before : Terminal) (octet : Option ℕ) (entries : List Entry) (put : List ℕ) (marks : List Mark) (after : Terminal)
    → IsTurn taken before octet entries put marks after → IsSixSteps taken before octet entries put marks after
steps_of taken before octet entries put marks after turn =
    let one = splits (commanded before) (λ t. and_then (all_marked marks t) (λ t. and_then (timed t) (λ t. filled t))) entries turn.chosen turn.went in
    let two = splits (all_marked marks one.mid) (λ t. and_then (timed t) (λ t. filled t)) one.second turn.chosen one.went_second in
    let three = splits (timed two.mid) (λ t. filled t) two.second turn.chosen two.went_second in record {
      first = one.first;
      third = two.first;
      fourth = three.first;
      fifth = three.second;
      entries_are = four_parts one.first two.first three.first three.second one.second two.second entries one.entries_are two.entries_are three.entries_are;
      obeyed = one.mid;
      heard = two.mid;
      clocked = three.mid;
      chosen = turn.chosen;
      step_1 = one.went_first;
      step_2 = turn.gives;
      step_3 = two.went_first;
      step_4 = three.went_first;
      step_5 = three.went_second;
      narrow = turn.narrow;
      step_6 = turn.puts;
    }

turn_of : (taken : List Bool) (before : Terminal) (octet : Option ℕ) (entries : List Entry) (put : List ℕ) (marks : List Mark) (after : Terminal)
    → IsSixSteps taken before octet entries put marks after → IsTurn taken before octet entries put marks after
turn_of taken before octet entries put marks after s =
    let late = joins (timed s.heard) (λ t. filled t) s.fourth s.fifth s.clocked s.chosen s.step_4 s.step_5 in
    let mid = joins (all_marked marks s.obeyed) (λ t. and_then (timed t) (λ t. filled t)) s.third (s.fourth ++ s.fifth) s.heard s.chosen s.step_3 late in
    let whole = joins (commanded before) (λ t. and_then (all_marked marks t) (λ t. and_then (timed t) (λ t. filled t))) s.first (s.third ++ (s.fourth ++ s.fifth)) s.obeyed s.chosen s.step_1 mid in record {
      gives = s.step_2;
      chosen = s.chosen;
      narrow = s.narrow;
      went = subst (λ all. Went (turn_talk marks before) all s.chosen) (sym (s.entries_are ∙ append_assoc (s.first ++ s.third) s.fourth s.fifth ∙ append_assoc s.first s.third (s.fourth ++ s.fifth))) whole;
      puts = s.step_6;
    }

pub turn_is_steps : (taken : List Bool) (before : Terminal) (octet : Option ℕ) (entries : List Entry) (put : List ℕ) (marks : List Mark) (after : Terminal)
    → (IsTurn taken before octet entries put marks after → IsSixSteps taken before octet entries put marks after)
    × (IsSixSteps taken before octet entries put marks after → IsTurn taken before octet entries put marks after)
turn_is_steps taken before octet entries put marks after =
    (steps_of taken before octet entries put marks after, turn_of taken before octet entries put marks after)

-- ONE TURN.

one_append : (unit : Option SignalUnit) (old a b : List Bool) → Appends unit old a → Appends unit old b → a ≡ b
one_append None old a b at_a at_b = at_a ∙ sym at_b
one_append (Some unit) old a b at_a at_b =
    at_a.appended ∙ ap (λ wire. old ++ wire ++ flag) (one_text (line_bits (sealed_text (text Narrow unit))) at_a.wire at_b.wire at_a.stuffed at_b.stuffed) ∙ sym at_b.appended

one_room : (room_a room_b : Bool) (bits : List Bool) → put_of room_a bits ≡ put_of room_b bits → left_of room_a bits ≡ left_of room_b bits
one_room true true bits e = refl
one_room false false bits e = refl
one_room true false bits e = absurd cc
one_room false true bits e = absurd cc

one_put : (chosen : Filled) (put : List ℕ) (x y : Terminal) → PutsOctet chosen put x → PutsOctet chosen put y → x ≡ y
one_put chosen put x y at_x at_y =
    let same = one_append chosen.unit chosen.after.bits at_x.bits at_y.bits at_x.appends at_y.appends in
    let puts : put_of at_x.has_room at_y.bits ≡ put_of at_y.has_room at_y.bits = ap (put_of at_x.has_room) (sym same) ∙ sym at_x.put_is ∙ at_y.put_is in
    let left : left_of at_x.has_room at_x.bits ≡ left_of at_y.has_room at_y.bits = ap (left_of at_x.has_room) same ∙ one_room at_x.has_room at_y.has_room at_y.bits puts in
    at_x.after_is ∙ ap (λ bits. record chosen.after { bits = bits }) left ∙ sym at_y.after_is

pub one_turn : (taken : List Bool) (before : Terminal) (octet : Option ℕ) (entries : List Entry) (put : List ℕ) (a b : List Mark) (x y : Terminal)
    → IsTurn taken before octet entries put a x → IsTurn taken before octet entries put b y → (a ≡ b) × (x ≡ y)
one_turn taken before octet entries put a b x y at_x at_y =
    let marks : a ≡ b = marks_alone taken (bits_in octet) a b at_x.gives at_y.gives in
    let went : Went (turn_talk b before) entries at_x.chosen = subst (λ m. Went (turn_talk m before) entries at_x.chosen) marks at_x.went in
    let chosen : at_x.chosen ≡ at_y.chosen = one_outcome (turn_talk b before) entries at_x.chosen at_y.chosen went at_y.went in
    (marks, one_put at_y.chosen put x y (subst (λ c. PutsOctet c put x) chosen at_x.puts) at_y.puts)

-- A TURN AT LEAST.

has_bits : (unit : Option SignalUnit) (old : List Bool) → (bits : List Bool) × Appends unit old bits
has_bits None old = (old, refl)
has_bits (Some unit) old =
    let content = line_bits (sealed_text (text Narrow unit)) in
    (_, record { wire = _; stuffed = has_text content; appended = refl })

pub turn_goes_on : (taken : List Bool) (before : Terminal) (octet : Option ℕ) (marks : List Mark) (door : List Entry → Event → Answer) (who : Actor) (past : List Entry)
    → GivesMarks taken octet marks → HasTurn taken before octet marks door who past ⊎ HasWideTurn taken before octet door who past
turn_goes_on taken before octet marks door who past gives = go (always_goes (turn_talk marks before) door who past)
  where
    by : (goes : GoesBy (turn_talk marks before) door who past) (narrow : Bool) → goes.outcome.narrow ≡ narrow → HasTurn taken before octet marks door who past ⊎ HasWideTurn taken before octet door who past
    by goes true is =
        let bits = has_bits goes.outcome.unit goes.outcome.after.bits in inl (record {
          entries = goes.entries;
          put = put_of true bits.0;
          after = record goes.outcome.after { bits = left_of true bits.0 };
          turn = record {
            gives = gives;
            chosen = goes.outcome;
            went = goes.went;
            narrow = is;
            puts = record { bits = bits.0; appends = bits.1; has_room = true; put_is = refl; after_is = refl };
          };
          are_answered = goes.are_answered;
        })
    by goes false is = inr (record {
      entries = goes.entries;
      turn = record { marks = marks; gives = gives; chosen = goes.outcome; went = goes.went; wide = is };
      are_answered = goes.are_answered;
    })

    go : GoesBy (turn_talk marks before) door who past → HasTurn taken before octet marks door who past ⊎ HasWideTurn taken before octet door who past
    go goes = by goes goes.outcome.narrow refl
