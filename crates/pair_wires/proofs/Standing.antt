-- WHERE A LINK STANDS, turn by turn: each thing that a turn asks keeps it (`falls_keep`, `ups_keep`, `then_keep`), and
-- so does what it does silently. By cases, and one induction on the marks.
use Rattle.std.proofs.Common.{refl, ap, sym, subst, ◌≡◌, ◌∙◌, ℕ, Bool, true, false, List, [], ◌∷◌, ◌++◌, Option, Some, None, slice_get, if◌then◌else◌}
use Rattle.l2_bits.specs.declared.marks.Mark.{Mark}
use Rattle.l2_units.specs.declared.unit.Unit.{Unit as SignalUnit}
use Rattle.set_events.specs.declared.answer.Answer.{Answer}
use Rattle.set_events.specs.declared.answer.Refusal.{Refusal}
use Rattle.set_events.specs.declared.event.Event.{Event}
use Rattle.set_events.specs.declared.history.Entry.{Entry}
use Rattle.set_model.specs.Changeover.{cleared}
use Rattle.set_model.specs.History.{IsLegal, after}
use Rattle.set_model.specs.State.{LinkState, State, has_phase_up, is_settled, is_up, link_is_up}
use Rattle.set_model.specs.Step.{Nothing, NotUp, Outcome, controls, heard, in_service, is_heard as can_hear, next, refused, step, with_known}
use Rattle.set_octets.proofs.Lives.{down_ends, up_begins}
use Rattle.term_asks.specs.Asking.{Standing, out, aligning, served, Falls, stays, drops, tells, Obeys, only_falls, begins, Times, goes_on, completes, risen_by, Rises, not_yet, comes_up, heard_by, Hears, passes, is_heard, HearsOne, HearsAll, AsksUp, asks_nothing, asks_again, Serves, idles, gives, Chooses, has_bits, chooses_one}
use Rattle.term_model.specs.Hearing.{unit_in}
use Rattle.pair_wires.specs.Standing.{IsStarting, StandsAt, TurnsKeepStanding}

-- ENTRIES, one part after another.
legal_parts : (s : State) (xs ys : List Entry) → IsLegal s (xs ++ ys) → IsLegal s xs × IsLegal (after s xs) ys
legal_parts s [] ys legal = (tt, legal)
legal_parts s (x ∷ xs) ys legal = let rest = legal_parts (step s x.event).state xs ys legal.2 in ((legal.0, legal.1, rest.0), rest.1)

after_parts : (s : State) (xs ys : List Entry) → after s (xs ++ ys) ≡ after (after s xs) ys
after_parts s [] ys = refl
after_parts s (x ∷ xs) ys = after_parts (step s x.event).state xs ys

true_false : {X : Type 0} → true ≡ false → X
true_false e = absurd cc

module _ (link : ℕ) where
  abbrev Keeps : Standing → Standing → List Entry → Type 0
  Keeps was now entries = (s : State) → IsLegal s entries → StandsAt link was s → StandsAt link now (after s entries)

  keeps_then : (was mid now : Standing) (xs ys : List Entry) → Keeps was mid xs → Keeps mid now ys → Keeps was now (xs ++ ys)
  keeps_then was mid now xs ys first second s legal at =
      let parts = legal_parts s xs ys legal in
      subst (StandsAt link now) (sym (after_parts s xs ys)) (second (after s xs) parts.1 (first s parts.0 at))

  keeps_same : (was now : Standing) (entries : List Entry) → now ≡ was → entries ≡ [] → Keeps was now entries
  keeps_same was now entries same none s legal at =
      subst (λ (es : List Entry). StandsAt link now (after s es)) (sym none) (subst (λ (x : Standing). StandsAt link x s) (sym same) at)

  -- one that is out of service isn't up
  at_out : (s : State) → (is_up link s ≡ true → ⊥) → StandsAt link out s
  at_out s down = record { up = λ is. absurd (down is); settled = λ starting. absurd starting }

  at_served : (s : State) → StandsAt link served s
  at_served s = record { up = λ is. refl; settled = λ starting. absurd starting }

  -- what is known of one entry
  keeps_one : (was now : Standing) (entry : Entry) (entries : List Entry) → entries ≡ entry ∷ []
      → ((s : State) → entry.answer ≡ (step s entry.event).answer → StandsAt link was s → StandsAt link now (step s entry.event).state)
      → Keeps was now entries
  keeps_one was now entry entries one each s legal at =
      subst (λ (es : List Entry). StandsAt link now (after s es)) (sym one) (each s (subst (IsLegal s) one legal).1 at)

  falls_keep : (was now : Standing) (entries : List Entry) → Falls link was now entries → Keeps was now entries
  falls_keep was now entries (stays same none) = keeps_same was now entries same none
  falls_keep was now entries (drops not_served is_out none) = λ s legal at.
      subst (λ (es : List Entry). StandsAt link now (after s es)) (sym none)
      (subst (λ (x : Standing). StandsAt link x s) (sym is_out) (at_out s (λ is. not_served (at.up is))))
  falls_keep was now entries (tells entry is_served is_out one event) =
      keeps_one was now entry entries one (λ s answer at.
      subst (λ (x : Standing). StandsAt link x (step s entry.event).state) (sym is_out)
      (at_out (step s entry.event).state (λ is.
      true_false (sym is ∙ ap (λ (e : Event). is_up link (step s e).state) event ∙ down_ends link s))))

  -- Up is answered Done where the link is settled
  ups_keep : (was now : Standing) (entry : Entry) (entries : List Entry) → IsStarting was → entries ≡ entry ∷ [] → entry.event ≡ Event.Up link
      → now ≡ risen_by entry.answer → Keeps was now entries
  ups_keep was now entry entries starting one event is =
      keeps_one was now entry entries one (λ s answer at.
      let begun = up_begins link s (at.settled starting) in
      let is_done : entry.answer ≡ Answer.Done = answer ∙ ap (λ (e : Event). (step s e).answer) event ∙ begun.answer in
      subst (λ (x : Standing). StandsAt link x (step s entry.event).state) (sym (is ∙ ap risen_by is_done)) (at_served (step s entry.event).state))

  -- what is refused as not up leaves a link that isn't
  in_down : (s : State) (f : LinkState → Outcome) → ((l : LinkState) → (f l).answer ≡ Answer.Refused Refusal.NotUp → ⊥)
      → (in_service link s f).answer ≡ Answer.Refused Refusal.NotUp → is_up link (in_service link s f).state ≡ true → ⊥
  in_down s f never = go (slice_get s.links link) refl
    where
      one : (l : LinkState) → slice_get s.links link ≡ Some l → (b : Bool) → has_phase_up l.phase ≡ b
          → (if b then f l else refused s NotUp).answer ≡ Answer.Refused Refusal.NotUp → is_up link (if b then f l else refused s NotUp).state ≡ true → ⊥
      one l there true up answer is = never l answer
      one l there false down answer is = true_false (sym is ∙ ap link_is_up there ∙ down)

      go : (found : Option LinkState) → slice_get s.links link ≡ found
          → (with_known found s (λ l. if has_phase_up l.phase then f l else refused s NotUp)).answer ≡ Answer.Refused Refusal.NotUp
          → is_up link (with_known found s (λ l. if has_phase_up l.phase then f l else refused s NotUp)).state ≡ true → ⊥
      go None there answer is = absurd cc
      go (Some l) there answer is = one l there (has_phase_up l.phase) refl answer is

  heard_never : (unit : SignalUnit) (s : State) (l : LinkState) → (heard unit link s l).answer ≡ Answer.Refused Refusal.NotUp → ⊥
  heard_never unit s l = go (can_hear s.settings.profile unit)
    where
      go : (b : Bool) → (if b then controls unit link s l else refused s Nothing).answer ≡ Answer.Refused Refusal.NotUp → ⊥
      go true answer = absurd cc
      go false answer = absurd cc

  abbrev IsDownThere : Event → Type 0
  IsDownThere event = (s : State) → (step s event).answer ≡ Answer.Refused Refusal.NotUp → is_up link (step s event).state ≡ true → ⊥

  next_down : IsDownThere (Event.Next link)
  unfolding step
  next_down s answer is = in_down s (next link (cleared link s)) (λ l e. absurd cc) answer is

  heard_down : (unit : SignalUnit) → IsDownThere (Event.Heard link unit)
  unfolding step
  heard_down unit s answer is = in_down s (heard unit link s) (heard_never unit s) answer is

  -- after what is asked of a link that is served
  answered_at : (s : State) (answer : Answer) → (answer ≡ Answer.Refused Refusal.NotUp → is_up link s ≡ true → ⊥) → StandsAt link (heard_by answer) s
  answered_at s (Answer.Refused Refusal.NotUp) down = at_out s (down refl)
  answered_at s (Answer.Refused Refusal.TooShort) down = at_served s
  answered_at s (Answer.Refused Refusal.TooLong) down = at_served s
  answered_at s (Answer.Refused Refusal.Reserved) down = at_served s
  answered_at s (Answer.Refused Refusal.StreamFull) down = at_served s
  answered_at s (Answer.Refused Refusal.NotDown) down = at_served s
  answered_at s (Answer.Refused Refusal.Unsettled) down = at_served s
  answered_at s (Answer.Refused Refusal.UnknownNumber) down = at_served s
  answered_at s (Answer.Refused Refusal.Nothing) down = at_served s
  answered_at s (Answer.Refused Refusal.NoSuchLink) down = at_served s
  answered_at s (Answer.Refused Refusal.Finished) down = at_served s
  answered_at s (Answer.Accepted number) down = at_served s
  answered_at s (Answer.Taken body) down = at_served s
  answered_at s (Answer.Found fate) down = at_served s
  answered_at s (Answer.Sent unit) down = at_served s
  answered_at s (Answer.Heard report) down = at_served s
  answered_at s Answer.Done down = at_served s

  served_keeps : (was now : Standing) (event : Event) (entry : Entry) (later entries : List Entry) → IsDownThere event → entry.event ≡ event
      → entries ≡ entry ∷ later → Falls link (heard_by entry.answer) now later → Keeps was now entries
  served_keeps was now event entry later entries down is one falls =
      subst (Keeps was now) (sym one)
      (keeps_then was (heard_by entry.answer) now (entry ∷ []) later
      (keeps_one was (heard_by entry.answer) entry (entry ∷ []) refl (λ s answer at.
      answered_at (step s entry.event).state entry.answer (λ e up.
      down s (ap (λ (x : Event). (step s x).answer) (sym is) ∙ sym answer ∙ e) (ap (λ (x : Event). is_up link (step s x).state) (sym is) ∙ up))))
      (falls_keep (heard_by entry.answer) now later falls))

  -- STEPS 1, 3, 4, 5.
  obeys_keep : (started : Bool) (was now : Standing) (entries : List Entry) → Obeys link started was now entries → (s : State) → IsLegal s entries
      → StandsAt link was s → (started ≡ true → was ≡ out → is_settled link s ≡ true) → StandsAt link now (after s entries)
  obeys_keep started was now entries (only_falls f) s legal at starts = falls_keep was now entries f s legal at
  obeys_keep started was now entries (begins is was_out now_is none) s legal at starts =
      subst (λ (es : List Entry). StandsAt link now (after s es)) (sym none)
      (subst (λ (x : Standing). StandsAt link x s) (sym now_is) (record {
        up = λ up. let no : out ≡ served = sym was_out ∙ at.up up in absurd cc;
        settled = λ starting. starts is was_out;
      }))

  rises_keep : (unit : SignalUnit) (was now : Standing) (entries : List Entry) → Rises link unit was now entries → Keeps was now entries
  rises_keep unit was now entries (not_yet same none) = keeps_same was now entries same none
  rises_keep unit was now entries (comes_up entry other is one event risen) = ups_keep was now entry entries (subst IsStarting (sym is) tt) one event risen

  hears_keep : (unit : SignalUnit) (was now : Standing) (entries : List Entry) → Hears link unit was now entries → Keeps was now entries
  hears_keep unit was now entries (passes not_served same none) = keeps_same was now entries same none
  hears_keep unit was now entries (is_heard is other asks) =
      served_keeps was now (Event.Heard link unit) asks.entry asks.later entries (heard_down unit) asks.asked asks.entries_are asks.falls

  one_keeps : (unit : Option SignalUnit) (was now : Standing) (entries : List Entry) → HearsOne link unit was now entries → Keeps was now entries
  one_keeps None was now entries f = falls_keep was now entries f
  one_keeps (Some unit) was now entries h =
      subst (Keeps was now) (sym h.entries_are)
      (keeps_then was h.judged now h.first (h.second ++ h.third) (falls_keep was h.judged h.first h.falls)
      (keeps_then h.judged h.risen now h.second h.third (rises_keep unit h.judged h.risen h.second h.rises) (hears_keep unit h.risen now h.third h.hears)))

  all_keep : (marks : List Mark) (was now : Standing) (entries : List Entry) → HearsAll link marks was now entries → Keeps was now entries
  all_keep [] was now entries h = keeps_same was now entries h.0 h.1
  all_keep (mark ∷ marks) was now entries h =
      subst (Keeps was now) (sym h.3)
      (keeps_then was h.0 now h.1 h.2 (one_keeps (unit_in mark) was h.0 h.1 h.4) (all_keep marks h.0 now h.2 h.5))

  times_keep : (was now : Standing) (entries : List Entry) → Times link was now entries → Keeps was now entries
  times_keep was now entries (goes_on f) = falls_keep was now entries f
  times_keep was now entries (completes is now_is none) = λ s legal at.
      subst (λ (es : List Entry). StandsAt link now (after s es)) (sym none)
      (subst (λ (x : Standing). StandsAt link x s) (sym now_is) (record {
        up = λ up. let no : aligning ≡ served = sym is ∙ at.up up in absurd cc;
        settled = λ starting. at.settled (subst IsStarting (sym is) tt);
      }))

  asks_keep : (was now : Standing) (entries : List Entry) → AsksUp link was now entries → Keeps was now entries
  asks_keep was now entries (asks_nothing never same none) = keeps_same was now entries same none
  asks_keep was now entries (asks_again entry is one event risen) = ups_keep was now entry entries (subst IsStarting (sym is) tt) one event risen

  serves_keep : (was now : Standing) (entries : List Entry) (unit : Option SignalUnit) → Serves link was now entries unit → Keeps was now entries
  serves_keep was now entries unit (idles not_served same none is) = keeps_same was now entries same none
  serves_keep was now entries unit (gives entry later is one event given falls) =
      served_keeps was now (Event.Next link) entry later entries next_down event one falls

  chooses_keep : (was now : Standing) (entries : List Entry) (unit : Option SignalUnit) → Chooses link was now entries unit → Keeps was now entries
  chooses_keep was now entries unit (has_bits same none no_unit) = keeps_same was now entries same none
  chooses_keep was now entries unit (chooses_one c) =
      subst (Keeps was now) (sym c.entries_are)
      (keeps_then was c.risen now c.first c.second (asks_keep was c.risen c.first c.asks) (serves_keep c.risen now c.second unit c.serves))

pub turns_keep : TurnsKeepStanding
turns_keep link started stopped marks was now entries unit s a legal at starts =
    let later = a.third ++ (a.fourth ++ a.fifth) in
    let parts = legal_parts s a.first later (subst (IsLegal s) a.entries_are legal) in
    let first = obeys_keep link started was a.obeyed a.first a.obeys s parts.0 at starts in
    let rest = keeps_then link a.obeyed a.heard now a.third (a.fourth ++ a.fifth) (all_keep link marks a.obeyed a.heard a.third a.hears)
    (keeps_then link a.heard a.timed now a.fourth a.fifth (times_keep link a.heard a.timed a.fourth a.times)
    (chooses_keep link a.timed now a.fifth unit a.chooses)) in
    subst (λ (es : List Entry). StandsAt link now (after s es)) (sym a.entries_are)
    (subst (StandsAt link now) (sym (after_parts s a.first later)) (rest (after s a.first) parts.1 first))
