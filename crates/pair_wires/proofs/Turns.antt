-- A WHOLE TURN, move by move (`turn_on`): commands, what is heard, timers, and what is chosen.
use Rattle.std.proofs.Common.{refl, arith, ap, sym, subst, ◌≡◌, ◌∙◌, ◌<◌, ◌⊎◌, ℕ, suc, ◌+◌, ◌*◌, ◌||◌, Bool, true, false, List, [], ◌∷◌, ◌++◌, length, Option, Some, None}
use Rattle.l2_bits.specs.declared.marks.Mark.{Mark}
use Rattle.l2_units.specs.declared.unit.Unit.{Unit as SignalUnit}
use Rattle.set_events.specs.declared.answer.Answer.{Answer}
use Rattle.set_events.specs.declared.answer.Refusal.{Refusal}
use Rattle.set_events.specs.declared.config.SetConfig.{SetConfig}
use Rattle.set_events.specs.declared.event.Event.{Event}
use Rattle.set_events.specs.declared.history.Entry.{Entry}
use Rattle.set_model.specs.Changeover.{one_later}
use Rattle.set_model.specs.History.{LinkSet, IsLegal}
use Rattle.set_model.specs.State.{State, is_settled, is_up, late_at}
use Rattle.set_model.specs.Step.{step}
use Rattle.set_octets.specs.Lives.{IsRefused, IsServed}
use Rattle.term_asks.specs.Asking.{Standing, out, aligning, ready, waiting, served, stays, drops, tells, Obeys, only_falls, begins, Times, goes_on, completes, Rises, not_yet, comes_up, Hears, passes, is_heard, HearsOne, HearsAll, AsksSo}
use Rattle.term_model.specs.Hearing.{unit_in}
use Rattle.pair_steps.specs.declared.step.End.{End}
use Rattle.pair_wires.specs.Following.{sent_if}
use Rattle.pair_wires.specs.Standing.{IsStarting, StandsAt}
use Rattle.pair_wires.specs.Ways.{Carried, HearsSome, Way, gives_by, gives_unit, is_out}
use Rattle.pair_wires.proofs.Choosing.{Sends, chooses_on, falls_gives, times_on, weaker}
use Rattle.pair_wires.proofs.Following.{begins_to_align}
use Rattle.pair_wires.proofs.Hearing.{IsFlushed, falls_flushed, heard_all, hears_all_on}
use Rattle.pair_wires.proofs.Turned.{Gone, HasRoom, Mid, Sight, entries_more, entries_state, falls_on, legal_parts, mid_ends, room_first, room_then, tells_on, with_entries}

-- WHAT GIVES NO UNIT: all but the choice
none_gives : (xs ys : List Entry) → gives_unit xs ≡ false → gives_unit (xs ++ ys) ≡ gives_unit ys
none_gives [] ys none = refl
none_gives (x ∷ xs) ys none = go (gives_by x.event x.answer) refl (λ rest. none_gives xs ys rest)
  where
    go : (c : Bool) → gives_by x.event x.answer ≡ c → (gives_unit xs ≡ false → gives_unit (xs ++ ys) ≡ gives_unit ys)
        → gives_unit (x ∷ xs ++ ys) ≡ gives_unit ys
    go true e next = let wrong : true ≡ false = sym (ap (λ (c : Bool). c || gives_unit xs) e) ∙ none in absurd cc
    go false e next = ap (λ (c : Bool). c || gives_unit (xs ++ ys)) e ∙ next (sym (ap (λ (c : Bool). c || gives_unit xs) e) ∙ none)

one_gives_none : (link : ℕ) (entry : Entry) (event : Event) (later : List Entry) → entry.event ≡ event → ((answer : Answer) → gives_by event answer ≡ false)
    → gives_unit later ≡ false → gives_unit (entry ∷ later) ≡ false
one_gives_none link entry event later is never rest =
    ap (λ (c : Bool). c || gives_unit later) (ap (λ (e : Event). gives_by e entry.answer) is ∙ never entry.answer) ∙ rest

obeys_gives : (link : ℕ) (started : Bool) (s s' : Standing) (entries : List Entry) → Obeys link started s s' entries → gives_unit entries ≡ false
obeys_gives link started s s' entries (only_falls f) = falls_gives link s s' entries f
obeys_gives link started s s' entries (begins is was_out now_is none) = ap gives_unit none

times_gives : (link : ℕ) (s s' : Standing) (entries : List Entry) → Times link s s' entries → gives_unit entries ≡ false
times_gives link s s' entries (goes_on f) = falls_gives link s s' entries f
times_gives link s s' entries (completes is now_is none) = ap gives_unit none

rises_gives : (link : ℕ) (unit : SignalUnit) (s s' : Standing) (entries : List Entry) → Rises link unit s s' entries → gives_unit entries ≡ false
rises_gives link unit s s' entries (not_yet same none) = ap gives_unit none
rises_gives link unit s s' entries (comes_up entry is_other is one event risen) =
    ap gives_unit one ∙ one_gives_none link entry (Event.Up link) [] event (λ answer. refl) refl

hears_gives : (link : ℕ) (unit : SignalUnit) (s s' : Standing) (entries : List Entry) → Hears link unit s s' entries → gives_unit entries ≡ false
hears_gives link unit s s' entries (passes not_served same none) = ap gives_unit none
hears_gives link unit s s' entries (is_heard is is_other asks) =
    ap gives_unit asks.entries_are
    ∙ one_gives_none link asks.entry (Event.Heard link unit) asks.later asks.asked (λ answer. refl) (falls_gives link _ s' asks.later asks.falls)

unit_gives : (link : ℕ) (unit : Option SignalUnit) (s s' : Standing) (entries : List Entry) → HearsOne link unit s s' entries → gives_unit entries ≡ false
unit_gives link None s s' entries f = falls_gives link s s' entries f
unit_gives link (Some unit) s s' entries h =
    ap gives_unit h.entries_are ∙ none_gives h.first (h.second ++ h.third) (falls_gives link s h.judged h.first h.falls)
    ∙ none_gives h.second h.third (rises_gives link unit h.judged h.risen h.second h.rises) ∙ hears_gives link unit h.risen s' h.third h.hears

all_gives : (link : ℕ) (marks : List Mark) (s s' : Standing) (entries : List Entry) → HearsAll link marks s s' entries → gives_unit entries ≡ false
all_gives link [] s s' entries h = ap gives_unit h.1
all_gives link (mark ∷ marks) s s' entries h =
    ap gives_unit h.3 ∙ none_gives h.1 h.2 (unit_gives link (unit_in mark) s h.0 h.1 h.4) ∙ all_gives link marks h.0 s' h.2 h.5

module _ (a b : SetConfig) (end : End) (l : ℕ) (v : Sight)
    (once : (m : ℕ) (s : State) (event : Event) → (late_at m (step s event).state ≡ late_at m s) ⊎ (late_at m (step s event).state ≡ one_later (late_at m s)))
    (down_refuses : (m : ℕ) (s : State) (event : Event) → IsServed m event → m < length s.links → is_up m s ≡ false → IsRefused s event)
    (up_gives : (m : ℕ) (s : State) → is_up m s ≡ true → (unit : SignalUnit) × ((step s (Event.Next m)).answer ≡ Answer.Sent unit))
    (up_hears : (m : ℕ) (s : State) (unit : SignalUnit) → is_up m s ≡ true → (step s (Event.Heard m unit)).answer ≡ Answer.Refused Refusal.NotUp → ⊥)
    (all_old : v.far_marked l ≡ true → (v.far_ways l).fresh ≡ [])
    (far_starts : IsStarting (v.far_standing l) → is_settled l v.far.state ≡ true) where
  -- COMMANDS. A link that's marked is out of service, or is told to stop; then all under way to it is old.
  module _ (full : LinkSet) (st : Standing) (marked stopped started : Bool) (near_way : Way) (mid : Mid a b end l v 0 full st marked near_way (v.far_ways l))
      (marked_is : marked ≡ (is_out st || stopped)) (near_old : marked ≡ true → near_way.fresh ≡ [])
      (flushed : marked ≡ false → IsFlushed st near_way) (may_start : started ≡ true → st ≡ out → is_settled l full.state ≡ true) where
    -- told nothing, it's marked where it's out of service alone
    told_nothing : (stopped ≡ true → st ≡ out) → Gone a b end l v once 0 full st near_way (v.far_ways l) × IsFlushed st near_way
    told_nothing stops = go marked refl
      where
        out_is : (s : Standing) → is_out s ≡ true → s ≡ out
        out_is out e = refl
        out_is aligning e = absurd cc
        out_is ready e = absurd cc
        out_is waiting e = absurd cc
        out_is served e = absurd cc

        out_flushed : st ≡ out → IsFlushed st near_way
        out_flushed is = record { ready_is = λ e. let no : out ≡ ready = sym is ∙ e in absurd cc; served_is = λ e. let no : out ≡ served = sym is ∙ e in absurd cc }

        is_marked_out : (x y : Bool) → (x || y) ≡ true → (y ≡ true → st ≡ out) → (x ≡ true → st ≡ out) → st ≡ out
        is_marked_out true y e f g = g refl
        is_marked_out false y e f g = f e

        go : (c : Bool) → marked ≡ c → Gone a b end l v once 0 full st near_way (v.far_ways l) × IsFlushed st near_way
        go false e = (
          record { done = 0; most_is = omega arith; marked = marked; only = λ is. let no : true ≡ false = sym is ∙ e in absurd cc; mid = mid },
          flushed e,
        )
        go true e =
            let is = is_marked_out (is_out st) stopped (sym marked_is ∙ e) stops (out_is st) in (
              record { done = 0; most_is = omega arith; marked = marked; only = λ m. is; mid = mid },
              out_flushed is,
            )

    obeys_on : (st' : Standing) (entries : List Entry) → Obeys l started st st' entries → (stopped ≡ true → st' ≡ out) → IsLegal full.state entries → HasRoom full entries
        → Gone a b end l v once 1 (with_entries full entries) st' near_way (v.far_ways l) × IsFlushed st' near_way
    obeys_on st' entries (begins is was_out now_is none) stops legal room =
        let all_marked : marked ≡ true = marked_is ∙ ap (λ (s : Standing). is_out s || stopped) was_out in
        let stands : StandsAt l aligning full.state =
        record { up = λ up. let no : out ≡ served = sym was_out ∙ mid.stands.up up in absurd cc; settled = λ starting. may_start is was_out } in (
          subst (λ (es : List Entry). Gone a b end l v once 1 (with_entries full es) st' near_way (v.far_ways l)) (sym none)
              (subst (λ (x : Standing). Gone a b end l v once 1 full x near_way (v.far_ways l)) (sym now_is)
              (record {
                done = 0;
                most_is = omega arith;
                marked = false;
                only = λ e. absurd cc;
                mid = record {
                  w = mid.w;
                  near = begins_to_align l _ _ full.state v.far.state _ st aligning marked near_way (near_old all_marked) mid.near;
                  far = mid.far;
                  others = mid.others;
                  stands = stands;
                  never_waits = λ e. absurd cc;
                  profile = mid.profile;
                  few = mid.few;
                };
              })),
          record { ready_is = λ e. let no : aligning ≡ ready = sym now_is ∙ e in absurd cc; served_is = λ e. let no : aligning ≡ served = sym now_is ∙ e in absurd cc },
        )
    obeys_on st' entries (only_falls (stays same none)) stops legal room =
        let t = told_nothing (λ e. sym same ∙ stops e) in (
          falls_on a b end l v once 0 full st st' entries near_way (v.far_ways l) (stays same none) legal room t.0,
          falls_flushed l st st' entries near_way (stays same none) t.1,
        )
    obeys_on st' entries (only_falls (drops not_served is_out none)) stops legal room = (
      subst (λ (es : List Entry). Gone a b end l v once 1 (with_entries full es) st' near_way (v.far_ways l)) (sym none)
          (subst (λ (x : Standing). Gone a b end l v once 1 full x near_way (v.far_ways l)) (sym is_out)
          (record {
            done = 0;
            most_is = omega arith;
            marked = true;
            only = λ e. refl;
            mid = mid_ends a b end l v once 0 full st marked near_way (v.far_ways l) not_served mid;
          })),
      record { ready_is = λ e. let no : out ≡ ready = sym is_out ∙ e in absurd cc; served_is = λ e. let no : out ≡ served = sym is_out ∙ e in absurd cc },
    )
    obeys_on st' entries (only_falls (tells entry is_served is_out one event)) stops legal room = (
      subst (λ (x : Standing). Gone a b end l v once 1 (with_entries full entries) x near_way (v.far_ways l)) (sym is_out)
          (tells_on a b end l v once full st entries near_way (v.far_ways l) entry one event (subst (IsLegal full.state) one legal).1 (subst (HasRoom full) one room) 0 marked mid),
      record { ready_is = λ e. let no : out ≡ ready = sym is_out ∙ e in absurd cc; served_is = λ e. let no : out ≡ served = sym is_out ∙ e in absurd cc },
    )

    -- THE TURN
    pub turn_on : (st' : Standing) (marks : List Mark) (entries : List Entry) (unit : Option SignalUnit) (cs later : List Carried)
        → near_way.old ++ near_way.fresh ≡ cs ++ later → HearsSome marks cs
        → AsksSo l started stopped marks st st' entries unit → IsLegal full.state entries → HasRoom full entries
        → Sends a b end l v once down_refuses up_gives far_starts (5 * length marks + 4) (with_entries full entries) st' entries unit (heard_all cs near_way) (v.far_ways l)
    turn_on st' marks entries unit cs later front same asks legal room =
        let rest3 = asks.fourth ++ asks.fifth in
        let rest2 = asks.third ++ rest3 in
        let legal0 : IsLegal full.state (asks.first ++ rest2) = subst (IsLegal full.state) asks.entries_are legal in
        let room0 : HasRoom full (asks.first ++ rest2) = subst (HasRoom full) asks.entries_are room in
        let p0 = legal_parts full.state asks.first rest2 legal0 in
        let one = obeys_on asks.obeyed asks.first asks.obeys asks.stops p0.0 (room_first full asks.first rest2 room0) in
        let full1 = with_entries full asks.first in
        let legal1 : IsLegal full1.state rest2 = subst (λ (s : State). IsLegal s rest2) (sym (entries_state full asks.first)) p0.1 in
        let room1 = room_then full asks.first rest2 room0 in
        let p1 = legal_parts full1.state asks.third rest3 legal1 in
        let two = hears_all_on a b end l v once down_refuses up_hears all_old far_starts 1 full1 marks asks.obeyed asks.heard asks.third near_way cs later front same asks.hears
        p1.0 (room_first full1 asks.third rest3 room1) one.1 one.0 in
        let full2 = with_entries full1 asks.third in
        let legal2 : IsLegal full2.state rest3 = subst (λ (s : State). IsLegal s rest3) (sym (entries_state full1 asks.third)) p1.1 in
        let room2 = room_then full1 asks.third rest3 room1 in
        let p2 = legal_parts full2.state asks.fourth asks.fifth legal2 in
        let n = 5 * length marks + 1 in
        let three = times_on a b end l v once down_refuses up_gives far_starts n full2 asks.heard asks.timed asks.fourth (heard_all cs near_way) (v.far_ways l) asks.times p2.0
        (room_first full2 asks.fourth asks.fifth room2) two.0 in
        let full3 = with_entries full2 asks.fourth in
        let legal3 : IsLegal full3.state asks.fifth = subst (λ (s : State). IsLegal s asks.fifth) (sym (entries_state full2 asks.fourth)) p2.1 in
        let four = chooses_on a b end l v once down_refuses up_gives far_starts (suc n) full3 asks.timed st' asks.fifth unit (heard_all cs near_way) (v.far_ways l) asks.chooses legal3
        (room_then full2 asks.fourth asks.fifth room2) three in
        let whole : with_entries full entries ≡ with_entries full3 asks.fifth =
        ap (with_entries full) asks.entries_are ∙ entries_more full asks.first rest2 ∙ entries_more full1 asks.third rest3 ∙ entries_more full2 asks.fourth asks.fifth in
        let none : gives_unit entries ≡ gives_unit asks.fifth =
        ap gives_unit asks.entries_are
        ∙ none_gives asks.first rest2 (obeys_gives l started st asks.obeyed asks.first asks.obeys)
        ∙ none_gives asks.third rest3 (all_gives l marks asks.obeyed asks.heard asks.third asks.hears)
        ∙ none_gives asks.fourth asks.fifth (times_gives l asks.heard asks.timed asks.fourth asks.times) in
        record {
          given = four.given;
          given_is = none ∙ four.given_is;
          gone = subst (λ (x : LinkSet). Gone a b end l v once (5 * length marks + 4) x st' (heard_all cs near_way) (sent_if unit four.given (v.far_ways l))) (sym whole)
              (weaker a b end l v once down_refuses up_gives far_starts (suc (suc (suc n))) (5 * length marks + 4) (with_entries full3 asks.fifth) st' (heard_all cs near_way)
              (sent_if unit four.given (v.far_ways l)) (omega arith) four.gone);
        }
