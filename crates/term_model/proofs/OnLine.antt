-- What turns put on the line: a turn, and turns one after another.
use Rattle.std.proofs.Common.{refl, sym, ap, subst, arith, ◌≡◌, ◌∙◌, ◌≤◌, Bool, true, false, nat_lt, length, take, drop, List, [], ◌∷◌, ◌++◌, append_assoc, Option, Some, None}
use Rattle.std.proofs.lemmas.List.{append-nil, length-append, length-take-le, take-append-drop}
use Rattle.std.proofs.lemmas.Bool.Decides.{nat_tests}
use Rattle.std.specs.Option.{option_to_list}
use Rattle.l2_units.specs.declared.status.Status.{Status}
use Rattle.l2_bits.specs.declared.marks.Mark.{Mark}
use Rattle.l2_bits.specs.Flags.{flag}
use Rattle.l2_bits.specs.LineBits.{bits_of, number_of, line_bits}
use Rattle.l2_bits.proofs.BitLemmas.{bits_of-number_of}
use Rattle.l2_bits.proofs.OctetLemmas.{line_bits-append}
use Rattle.l2_units.specs.declared.unit.Unit.{Unit as SignalUnit}
use Rattle.l2_units.specs.Grammar.{head_of}
use Rattle.l2_state.specs.declared.link_state.State.{State}
use Rattle.set_events.specs.declared.answer.Answer.{Answer}
use Rattle.set_events.specs.declared.answer.Refusal.{Refusal}
use Rattle.set_events.specs.declared.event.Event.{Event}
use Rattle.term_model.specs.Choosing.{Filled, is_narrow, sends, sends_status, sends_fisu, sends_start_fisu, counts_sent, held_back, sent_by, serves, unless_out, up_first, chosen, filled}
use Rattle.term_model.specs.Hearing.{all_marked}
use Rattle.term_model.specs.LineLaws.{AreOnLine, CarriesUnits}
use Rattle.term_model.specs.Obeying.{commanded}
use Rattle.term_model.specs.OctetIn.{bits_in}
use Rattle.term_model.specs.OctetOut.{Appends, put_of, left_of}
use Rattle.term_model.specs.Runs.{Doing, Did, AreTurns, units_of, octets_out}
use Rattle.term_model.specs.Talk.{Talk, done, ask, and_then}
use Rattle.term_model.specs.Terminal.{Terminal}
use Rattle.term_model.specs.Timing.{timed}
use Rattle.term_model.specs.Turn.{turn_talk}
use Rattle.term_model.specs.TurnLaws.{IsSound}
use Rattle.term_model.proofs.Keeping.{Keeps, then_keeps, if_keeps, went_kept}
use Rattle.term_model.proofs.TurnStays.{turn_sound, bits_stay}

-- ENOUGH IS LEFT, where no unit was chosen.

abbrev pub HasEnough : Filled → Type 0
HasEnough f = f.narrow ≡ true → f.unit ≡ None → 8 ≤ length f.after.bits

abbrev pub Any : {A : Type 0} → A → Type 0
Any a = Unit {0}

keeps_any : {A : Type 0} (talk : Talk A) → Keeps Any Any talk
keeps_any (done a) = tt
keeps_any (ask event more) = (tt, λ answer. keeps_any (more answer))

sent_enough : (answer : Answer) (t : Terminal) → Keeps Any HasEnough (sent_by answer t)
sent_enough (Answer.Sent unit) t =
    if_keeps Any HasEnough (is_narrow (head_of unit)) (and_then (counts_sent unit t) (λ u. sends (held_back u unit) u)) (done (record { unit = None; narrow = false; after = t }))
    (λ is. then_keeps Any Any HasEnough (counts_sent unit t) (λ u. sends (held_back u unit) u) (keeps_any (counts_sent unit t)) (λ u any narrow none. absurd cc))
    (λ not narrow none. absurd cc)
sent_enough (Answer.Refused Refusal.NotUp) t = λ narrow none. absurd cc
sent_enough _ t = λ narrow none. absurd cc

serves_enough : (paused : Bool) (t : Terminal) → Keeps Any HasEnough (serves paused t)
serves_enough paused t =
    if_keeps Any HasEnough t.up _ (sends_start_fisu t)
    (λ up. if_keeps Any HasEnough t.b_due (sends_status Status.Busy (record t { b_due = false })) _
    (λ due narrow none. absurd cc)
    (λ not_due. if_keeps Any HasEnough paused (sends_fisu t) (ask (Event.Next t.link) (λ answer. sent_by answer t))
    (λ is narrow none. absurd cc)
    (λ not. (tt, λ answer. sent_enough answer t))))
    (λ down narrow none. absurd cc)

unless_out_enough : (talk : Talk Filled) (t : Terminal) → Keeps Any HasEnough talk → Keeps Any HasEnough (unless_out talk t)
unless_out_enough talk t enough =
    if_keeps Any HasEnough t.outage (sends_status Status.ProcessorOutage t) talk (λ out narrow none. absurd cc) (λ not. enough)

chosen_enough : (state : State) (t : Terminal) → Keeps Any HasEnough (chosen state t)
chosen_enough State.OutOfService t = λ narrow none. absurd cc
chosen_enough State.Aligning t = λ narrow none. absurd cc
chosen_enough State.Ready t = unless_out_enough (sends_start_fisu t) t (λ narrow none. absurd cc)
chosen_enough (State.InService paused) t =
    then_keeps Any Any HasEnough (up_first t) (λ u. unless_out (serves paused u) u) (keeps_any (up_first t)) (λ u any. unless_out_enough (serves paused u) u (serves_enough paused u))

filled_enough : (t : Terminal) → Keeps Any HasEnough (filled t)
filled_enough t =
    if_keeps Any HasEnough (nat_lt (length t.bits) 8) (chosen t.state t) (done (record { unit = None; narrow = true; after = t }))
    (λ few. chosen_enough t.state t) (λ enough narrow none. grind (arith, nat_tests))

talk_enough : (marks : List Mark) (t : Terminal) → Keeps Any HasEnough (turn_talk marks t)
talk_enough marks t =
    then_keeps Any Any HasEnough (commanded t) (λ u. and_then (all_marked marks u) (λ v. and_then (timed v) (λ w. filled w))) (keeps_any (commanded t))
    (λ u any. then_keeps Any Any HasEnough (all_marked marks u) (λ v. and_then (timed v) (λ w. filled w)) (keeps_any (all_marked marks u))
    (λ v any. then_keeps Any Any HasEnough (timed v) (λ w. filled w) (keeps_any (timed v)) (λ w any. filled_enough w)))

-- ONE TURN.

-- an octet and what is left are the bits
first_octet : (bits : List Bool) → 8 ≤ length bits → bits ≡ line_bits (number_of (take 8 bits) ∷ []) ++ drop 8 bits
first_octet bits enough =
    let eight : length (take 8 bits) ≡ 8 = length-take-le 8 bits enough in
    let octet : bits_of 8 (number_of (take 8 bits)) ≡ take 8 bits = subst (λ n. bits_of n (number_of (take 8 bits)) ≡ take 8 bits) eight (bits_of-number_of (take 8 bits)) in
    sym (take-append-drop 8 bits) ∙ ap (λ first. first ++ drop 8 bits) (sym octet ∙ sym (append-nil (bits_of 8 (number_of (take 8 bits)))))

put_and_left : (room : Bool) (bits : List Bool) → 8 ≤ length bits → bits ≡ line_bits (put_of room bits) ++ left_of room bits
put_and_left true bits enough = first_octet bits enough
put_and_left false bits enough = refl

flag_length : length flag ≡ 8
unfolding flag
flag_length = refl

-- what was appended: enough to put an octet
appended_enough : (unit : Option SignalUnit) (old bits : List Bool) → (unit ≡ None → 8 ≤ length old) → Appends unit old bits → 8 ≤ length bits
appended_enough None old bits enough same = subst (λ b. 8 ≤ length b) (sym same) (enough refl)
appended_enough (Some unit) old bits enough on =
    omega (arith, ap length on.appended, length-append (old ++ on.wire) flag, flag_length)

appended_line : (unit : Option SignalUnit) (old bits : List Bool) → Appends unit old bits
    → (line : List Bool) × AreOnLine (option_to_list unit) line × (old ++ line ≡ bits)
appended_line None old bits same = ([], refl, append-nil old ∙ sym same)
appended_line (Some unit) old bits on = (
  on.wire ++ flag ++ [],
  (on.wire, [], on.stuffed, refl, refl),
  ap (λ rest. old ++ rest) (append-nil (on.wire ++ flag)) ∙ sym (append_assoc old on.wire flag) ∙ sym on.appended,
)

one_carries : (taken : List Bool) (before after : Terminal) (doing : Doing) → IsSound before → Did taken before doing after
    → CarriesUnits (option_to_list doing.unit) doing.put before.bits after.bits
one_carries taken before after doing sound did =
    let turn = did.turn in
    let puts = turn.puts in
    let enough : HasEnough turn.chosen = went_kept Any HasEnough (turn_talk doing.marks before) doing.entries turn.chosen (talk_enough doing.marks before) turn.went in
    let old : turn.chosen.after.bits ≡ before.bits = bits_stay taken before doing.octet doing.entries doing.put doing.marks after sound turn in
    let more : 8 ≤ length puts.bits = appended_enough turn.chosen.unit turn.chosen.after.bits puts.bits (enough turn.narrow) puts.appends in
    let line = appended_line turn.chosen.unit turn.chosen.after.bits puts.bits puts.appends in record {
      line = line.0;
      on_line = subst (λ unit. AreOnLine (option_to_list unit) line.0) (sym did.unit_is) line.1;
      same = ap (λ bits. bits ++ line.0) (sym old) ∙ line.2 ∙ put_and_left puts.has_room puts.bits more
          ∙ ap (λ octets. line_bits octets ++ left_of puts.has_room puts.bits) (sym puts.put_is)
          ∙ ap (λ t. line_bits doing.put ++ t.bits) (sym puts.after_is);
    }

-- TURNS.

both_on_line : (first second : List SignalUnit) (a b : List Bool) → AreOnLine first a → AreOnLine second b → AreOnLine (first ++ second) (a ++ b)
both_on_line [] second a b none on = subst (λ c. AreOnLine second (c ++ b)) (sym none) on
both_on_line (unit ∷ first) second a b on more =
    (on.0, on.1 ++ b, on.2, both_on_line first second on.1 b on.3 more, ap (λ c. c ++ b) on.4 ∙ append_assoc (on.0 ++ flag) on.1 b)

pub carries : (doings : List Doing) (taken : List Bool) (before after : Terminal) → IsSound before → AreTurns doings taken before after
    → CarriesUnits (units_of doings) (octets_out doings) before.bits after.bits
carries [] taken before after sound same = record { line = []; on_line = refl; same = append-nil before.bits ∙ ap (λ t. t.bits) (sym same) }
carries (doing ∷ rest) taken before after sound turns =
    let sound_then = (turn_sound taken before doing.octet doing.entries doing.put doing.marks turns.0 sound turns.1.turn).goes_on.sound in
    let one = one_carries taken before turns.0 doing sound turns.1 in
    let more = carries rest (taken ++ bits_in doing.octet) turns.0 after sound_then turns.2 in record {
      line = one.line ++ more.line;
      on_line = both_on_line (option_to_list doing.unit) (units_of rest) one.line more.line one.on_line more.on_line;
      same = sym (append_assoc before.bits one.line more.line) ∙ ap (λ bits. bits ++ more.line) one.same
          ∙ append_assoc (line_bits doing.put) turns.0.bits more.line ∙ ap (λ bits. line_bits doing.put ++ bits) more.same
          ∙ sym (append_assoc (line_bits doing.put) (line_bits (octets_out rest)) after.bits)
          ∙ ap (λ bits. bits ++ after.bits) (sym (line_bits-append doing.put (octets_out rest)));
    }
