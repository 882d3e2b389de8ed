-- A link is told to start only where it's settled.
use Rattle.std.proofs.Common.{◌≡◌, ◌⊎◌, inl, inr, Bool, true, false, not, ◌&&◌, ◌||◌, Option, Some, None, List, [], ◌∷◌, if◌then◌else◌, refl, subst, sym, ◌∙◌}
use Rattle.l3_link.specs.Laws.{StartsSettled}
use Rattle.l3_link.specs.Lengths.{runs}
use Rattle.l3_link.specs.Management.{Management, is_off, is_rest, is_settled, is_up}
use Rattle.l3_link.specs.Runs.{Input, activate, deactivate, turn, answer, answered_by, is_rise, run, sees, settled_by, settles, step}
use Rattle.l3_link.specs.Table.{Row, acted, activated, answered, answers, asking, at_work, behind, came_up, carrying, count_down, in_turn, k1_ends, looking, passed, risen, rising, seeing, silent, t17_stops, testing, with_clocks}
use Rattle.l3_link.specs.declared.management.Awaited.{Awaited}
use Rattle.l3_link.specs.declared.management.State.{State}
use Rattle.l3_link.specs.declared.signals.Ask.{Ask}
use Rattle.l3_link.specs.declared.signals.Seen.{Seen}
use Rattle.l3_link.proofs.Attended.{awaits}
use Rattle.l3_link.proofs.Steps.{choose, acted_by, counted_same, seen_by}

-- what was seen is kept; the set is awaited where it was asked to settle the link; and Start is asked of a settled link
pub record Told (s : Seen) (r : Row) : Type 0 where
  pub seen : r.next.seen ≡ s
  pub asked : awaits r.next.awaited ≡ true → settles r.asked ≡ true
  pub rise : is_rise r.asked ≡ true → is_settled r.next.seen.phase ≡ true

last_of : (a b c : Bool) → ((a && b) && c) ≡ true → c ≡ true
last_of true true c e = e
last_of true false c e = absurd cc
last_of false b c e = absurd cc

plain : (m : Management) (r : Row) → r.next.seen ≡ m.seen → awaits r.next.awaited ≡ false → is_rise r.asked ≡ false → Told m.seen r
plain m r e i f = record { seen = e; asked = λ q. absurd cc; rise = λ q. absurd cc }

k1_told : (st : State) (m : Management) → awaits m.awaited ≡ false → Told m.seen (k1_ends st m)
k1_told State.Trial1 m i = plain m _ refl i refl
k1_told State.Again1 m i = plain m _ refl i refl
k1_told State.Off m i = plain m _ refl i refl
k1_told State.Rest m i = plain m _ refl i refl
k1_told State.Rising m i = plain m _ refl i refl
k1_told State.Trial2 m i = plain m _ refl i refl
k1_told State.Carry m i = plain m _ refl i refl
k1_told State.Again2 m i = plain m _ refl i refl

risen_told : (m : Management) → awaits m.awaited ≡ false → Told m.seen (risen m)
risen_told m i =
    choose (Told m.seen) ((is_rest m.state && not (runs m.clocks.t17)) && is_settled m.seen.phase) (rising m) (silent m)
    (λ e. record { seen = refl; asked = λ q. absurd cc; rise = λ q. last_of (is_rest m.state) (not (runs m.clocks.t17)) (is_settled m.seen.phase) e })
    (λ e. plain m (silent m) refl i refl)

acted_told : (m : Management) → awaits m.awaited ≡ false → Told m.seen (acted m)
acted_told m i = acted_by (Told m.seen) m
    (λ e. record { seen = refl; asked = λ q. refl; rise = λ q. absurd cc })
    (λ e. record { seen = refl; asked = λ q. refl; rise = λ q. absurd cc })
    (plain m _ refl i refl)
    (plain m _ refl i refl)
    (λ e. k1_told m.state m i)
    (λ e. plain m _ refl i refl)
    (plain m _ refl i refl)
    (risen_told m i)

-- TURNS

-- a row by what is seen awaits the set for nothing, and asks no Start
record Shown (s : Seen) (r : Row) : Type 0 where
  pub seen : r.next.seen ≡ s
  pub idle : awaits r.next.awaited ≡ false
  pub stays : is_rise r.asked ≡ false

came_up_shown : (m : Management) → awaits m.awaited ≡ false → Shown m.seen (came_up m)
came_up_shown m i =
    let up = with_clocks (t17_stops m.clocks) m in
    choose (Shown m.seen) m.tests (testing State.Trial1 up) (carrying up)
    (λ e. record { seen = refl; idle = i; stays = refl }) (λ e. record { seen = refl; idle = refl; stays = refl })

quiet : (m : Management) → awaits m.awaited ≡ false → Shown m.seen (silent m)
quiet m i = record { seen = refl; idle = i; stays = refl }

passed_shown : (m : Management) → awaits m.awaited ≡ false → Shown m.seen (if m.seen.passed then carrying (passed m) else silent m)
passed_shown m i = choose (Shown m.seen) m.seen.passed (carrying (passed m)) (silent m)
    (λ e. record { seen = refl; idle = refl; stays = refl }) (λ e. quiet m i)

again_shown : (m : Management) → awaits m.awaited ≡ false → Shown m.seen (if m.seen.passed then silent (record (passed m) { state = State.Carry }) else silent m)
again_shown m i = choose (Shown m.seen) m.seen.passed (silent (record (passed m) { state = State.Carry })) (silent m)
    (λ e. record { seen = refl; idle = i; stays = refl }) (λ e. quiet m i)

work_shown : (st : State) (alone : Bool) (m : Management) → awaits m.awaited ≡ false → Shown m.seen (at_work st alone m)
work_shown State.Rest alone m i =
    choose (Shown m.seen) (is_up m.seen.phase) (came_up m) (silent m) (λ e. came_up_shown m i) (λ e. quiet m i)
work_shown State.Rising alone m i =
    choose (Shown m.seen) (is_up m.seen.phase) (came_up m) (if alone then asking Ask.Emergency m else silent m)
    (λ e. came_up_shown m i)
    (λ e. choose (Shown m.seen) alone (asking Ask.Emergency m) (silent m) (λ q. record { seen = refl; idle = i; stays = refl }) (λ q. quiet m i))
work_shown State.Trial1 alone m i = passed_shown m i
work_shown State.Trial2 alone m i = passed_shown m i
work_shown State.Again1 alone m i = again_shown m i
work_shown State.Again2 alone m i = again_shown m i
work_shown _ alone m i = quiet m i

seeing_shown : (s : Seen) (m : Management) → Shown s (seeing s m)
seeing_shown s m = seen_by (Shown s) s m
    (λ e. record { seen = refl; idle = refl; stays = refl })
    (λ e. work_shown m.state (m.seen.others && not s.others) (looking s m) refl)

record Keeps (k m : Management) : Type 0 where
  pub seen : k.seen ≡ m.seen
  pub awaited : k.awaited ≡ m.awaited

counted_keeps : (m : Management) → Keeps (count_down m) m
counted_keeps m =
    counted_same (λ k. Keeps k m) m (λ k c e. record { seen = e.seen; awaited = e.awaited }) (record { seen = refl; awaited = refl })

behind_told : (o : Option Ask) (m : Management) → awaits m.awaited ≡ false → is_rise o ≡ false → Told m.seen (behind o m)
behind_told None m i f = acted_told m i
behind_told (Some ask) m i f = plain m (asking ask m) refl i f

pub in_turn_told : (s : Seen) (m : Management) → Told s (in_turn s m)
in_turn_told s m =
    let r = seeing_shown s m in
    let k = counted_keeps (seeing s m).next in
    let t = behind_told (seeing s m).asked (count_down (seeing s m).next) (rw k.awaited r.idle) r.stays in
    record { seen = t.seen ∙ k.seen ∙ r.seen; asked = t.asked; rise = t.rise }

-- ANSWERS

-- the link is settled by this answer only where it was, or where the set was to settle it and did
record Answered (done : Bool) (m : Management) (r : Row) : Type 0 where
  pub told : Told r.next.seen r
  pub by : is_settled r.next.seen.phase ≡ true → (is_settled m.seen.phase ≡ true) ⊎ ((done && awaits m.awaited) ≡ true)

-- where it asks on with what was seen
goes_on : (done : Bool) (m k : Management) → k.seen ≡ m.seen → awaits k.awaited ≡ false → Answered done m (acted k)
goes_on done m k e i =
    let t = acted_told k i in
    record { told = record { seen = refl; asked = t.asked; rise = t.rise }; by = λ q. inl (rw (sym e) (rw (sym t.seen) q)) }

-- where the set settled it
settles_it : (m k : Management) → awaits m.awaited ≡ true → awaits k.awaited ≡ false → Answered true m (acted k)
settles_it m k a i =
    let t = acted_told k i in
    record { told = record { seen = refl; asked = t.asked; rise = t.rise }; by = λ q. inr a }

answers_told : (a : Awaited) (done : Bool) (m : Management) → a ≡ m.awaited → Answered done m (answers a done (record m { awaited = Awaited.Nothing }))
answers_told Awaited.Restore true m e = goes_on true m _ refl refl
answers_told Awaited.TimedAtT1 true m e = settles_it m _ (rw (sym e) refl) refl
answers_told Awaited.TimedAtT2 true m e = settles_it m _ (rw (sym e) refl) refl
answers_told Awaited.NoAnswer true m e = settles_it m _ (rw (sym e) refl) refl
answers_told Awaited.TimedAtT1 false m e = goes_on false m _ refl refl
answers_told Awaited.TimedAtT2 false m e =
    record { told = record { seen = refl; asked = λ q. refl; rise = λ q. absurd cc }; by = λ q. inl q }
answers_told Awaited.NoAnswer false m e = goes_on false m _ refl refl
answers_told Awaited.Restore false m e = goes_on false m _ refl refl
answers_told Awaited.Nothing done m e = goes_on done m _ refl refl

-- WALKS

combine : (p q d t rest : Bool) → (q || rest) ≡ true → (q ≡ true → (p ≡ true) ⊎ ((d && t) ≡ true)) → (p || ((d && t) || rest)) ≡ true
combine true q d t rest e f = refl
combine false q true true rest e f = refl
combine false true true false rest e f = elim (f refl) [ inl g ↦ absurd cc | inr g ↦ absurd cc ]
combine false true false t rest e f = elim (f refl) [ inl g ↦ absurd cc | inr g ↦ absurd cc ]
combine false false true false rest e f = e
combine false false false t rest e f = e

both : (d a t : Bool) → (d && a) ≡ true → (a ≡ true → t ≡ true) → (d && t) ≡ true
both true a t e f = f e
both false a t e f = absurd cc

walk : (r : Row) (answers : List Bool) → Told r.next.seen r → is_rise (answered_by r answers).asked ≡ true → (is_settled r.next.seen.phase || settled_by r answers) ≡ true
walk r [] h e = rw (h.rise e) refl
walk r (done ∷ answers) h e =
    let a = answers_told r.next.awaited done r.next refl in
    let next = answered done r.next in
    combine (is_settled r.next.seen.phase) (is_settled next.next.seen.phase) done (settles r.asked) (settled_by next answers)
    (walk next answers a.told e)
    (λ q. elim (a.by q) [ inl f ↦ inl f | inr f ↦ inr (both done (awaits r.next.awaited) (settles r.asked) f h.asked) ])

from_seen : (s : Seen) (r : Row) (answers : List Bool) → Told s r → is_rise (answered_by r answers).asked ≡ true → (is_settled s.phase || settled_by r answers) ≡ true
from_seen s r answers h e =
    let known : Told r.next.seen r = record { seen = refl; asked = h.asked; rise = h.rise } in
    subst (λ t. (is_settled t.phase || settled_by r answers) ≡ true) h.seen (walk r answers known e)

same_seen : (s t : Seen) (r : Row) → Some t ≡ Some s → Told t r → Told s r
same_seen s t r e h = subst (λ k. Told k r) (some_seen s t e) h where
  some_seen : (s t : Seen) → Some t ≡ Some s → t ≡ s
  some_seen s t e = cc

activated_told : (b : Bool) (m : Management) (t s : Seen) → (if b then Some t else None) ≡ Some s → Told s (if b then activated t m else silent m)
activated_told true m t s e = same_seen s t (activated t m) e (in_turn_told t _)
activated_told false m t s e = absurd cc

turned_told : (b : Bool) (m : Management) (t s : Seen) → (if b then None else Some t) ≡ Some s → Told s (if b then silent m else in_turn t m)
turned_told true m t s e = absurd cc
turned_told false m t s e = same_seen s t (in_turn t m) e (in_turn_told t m)

input_told : (m : Management) (input : Input) (s : Seen) → sees m input ≡ Some s → Told s (step m input)
input_told m (activate t) s e = activated_told (is_off m.state) m t s e
input_told m (turn t) s e = turned_told (is_off m.state) m t s e
input_told m deactivate s e = absurd cc
input_told m (answer done) s e = absurd cc

pub starts_settled : StartsSettled
starts_settled times tests past input s answers e f =
    let m = run times tests past in
    from_seen s (step m input) answers (input_told m input s e) f
