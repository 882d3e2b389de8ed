-- Talks, one after another: by cases on the talk and on the entries.
use Rattle.std.proofs.Common.{refl, ◌≡◌, ◌∙◌, ap, subst, sym, List, [], ◌∷◌, ◌++◌}
use Rattle.set_events.specs.declared.answer.Answer.{Answer}
use Rattle.set_events.specs.declared.event.Actor.{Actor}
use Rattle.set_events.specs.declared.event.Event.{Event}
use Rattle.set_events.specs.declared.history.Entry.{Entry}
use Rattle.term_model.specs.Talk.{Talk, done, ask, and_then, Went, BrokeOff}
use Rattle.term_model.specs.TalkLaws.{Split, GoesBy}

pub joins : {A B : Type 0} (talk : Talk A) (next : A → Talk B) (first second : List Entry) (mid : A) (last : B)
    → Went talk first mid → Went (next mid) second last → Went (and_then talk next) (first ++ second) last
joins (done a) next [] second mid last went more = subst (λ m. Went (next m) second last) went more
joins (done a) next (entry ∷ entries) second mid last went more = absurd went
joins (ask event go) next [] second mid last went more = absurd went
joins (ask event go) next (entry ∷ entries) second mid last went more =
    (went.0, joins (go entry.answer) next entries second mid last went.1 more)

pub splits : {A B : Type 0} (talk : Talk A) (next : A → Talk B) (entries : List Entry) (last : B)
    → Went (and_then talk next) entries last → Split talk next entries last
splits (done a) next entries last went =
    record { mid = a; first = []; second = entries; entries_are = refl; went_first = refl; went_second = went }
splits (ask event go) next [] last went = absurd went
splits (ask event go) next (entry ∷ entries) last went =
    let s = splits (go entry.answer) next entries last went.1 in record {
      mid = s.mid;
      first = entry ∷ s.first;
      second = s.second;
      entries_are = ap (λ rest. entry ∷ rest) s.entries_are;
      went_first = (went.0, s.went_first);
      went_second = s.went_second;
    }

ends_by_itself : {A : Type 0} (talk : Talk A) (entries : List Entry) (a : A) → Went (and_then talk (λ b. done b)) entries a → Went talk entries a
ends_by_itself (done b) entries a went = went
ends_by_itself (ask event go) [] a went = went
ends_by_itself (ask event go) (entry ∷ entries) a went = (went.0, ends_by_itself (go entry.answer) entries a went.1)

ends_with_done : {A : Type 0} (talk : Talk A) (entries : List Entry) (a : A) → Went talk entries a → Went (and_then talk (λ b. done b)) entries a
ends_with_done (done b) entries a went = went
ends_with_done (ask event go) [] a went = went
ends_with_done (ask event go) (entry ∷ entries) a went = (went.0, ends_with_done (go entry.answer) entries a went.1)

pub ends_the_same : {A : Type 0} (talk : Talk A) (entries : List Entry) (a : A)
    → (Went (and_then talk (λ b. done b)) entries a → Went talk entries a) × (Went talk entries a → Went (and_then talk (λ b. done b)) entries a)
ends_the_same talk entries a = (ends_by_itself talk entries a, ends_with_done talk entries a)

pub breaks_first : {A B : Type 0} (talk : Talk A) (next : A → Talk B) (entries : List Entry) (last : Event)
    → BrokeOff talk entries last → BrokeOff (and_then talk next) entries last
breaks_first (done a) next entries last broke = absurd broke
breaks_first (ask event go) next [] last broke = broke
breaks_first (ask event go) next (entry ∷ entries) last broke =
    (broke.0, breaks_first (go entry.answer) next entries last broke.1)

pub breaks_later : {A B : Type 0} (talk : Talk A) (next : A → Talk B) (first second : List Entry) (mid : A) (last : Event)
    → Went talk first mid → BrokeOff (next mid) second last → BrokeOff (and_then talk next) (first ++ second) last
breaks_later (done a) next [] second mid last went more = subst (λ m. BrokeOff (next m) second last) went more
breaks_later (done a) next (entry ∷ entries) second mid last went more = absurd went
breaks_later (ask event go) next [] second mid last went more = absurd went
breaks_later (ask event go) next (entry ∷ entries) second mid last went more =
    (went.0, breaks_later (go entry.answer) next entries second mid last went.1 more)

pub one_outcome : {A : Type 0} (talk : Talk A) (entries : List Entry) (a b : A) → Went talk entries a → Went talk entries b → a ≡ b
one_outcome (done c) [] a b at_a at_b = at_a ∙ sym at_b
one_outcome (done c) (entry ∷ entries) a b at_a at_b = absurd at_a
one_outcome (ask event go) [] a b at_a at_b = absurd at_a
one_outcome (ask event go) (entry ∷ entries) a b at_a at_b = one_outcome (go entry.answer) entries a b at_a.1 at_b.1

pub always_goes : {A : Type 0} (talk : Talk A) (door : List Entry → Event → Answer) (who : Actor) (past : List Entry)
    → GoesBy talk door who past
always_goes (done a) door who past = record { entries = []; outcome = a; went = refl; are_answered = tt }
always_goes (ask event go) door who past =
    let answer = door past event in
    let entry : Entry = record { who = who; event = event; answer = answer } in
    let rest = always_goes (go answer) door who (past ++ entry ∷ []) in record {
      entries = entry ∷ rest.entries;
      outcome = rest.outcome;
      went = (refl, rest.went);
      are_answered = (refl, refl, rest.are_answered);
    }
