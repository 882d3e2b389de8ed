-- TALKS CARRIED OUT AT A DOOR, one after another: what the calls of one step gained, or where they broke off, is that of the
-- whole step. By cases on the result; no induction here, since `term_model` has proved that talks follow each other
-- (`joins`, `breaks_first`, `breaks_later`). Used by each function that asks the set twice, and by Rows, Feeding, Choices
-- and SixSteps.
use Rattle.std.proofs.Common.{sym, ap, ◌≡◌, ◌∙◌, List, [], ◌∷◌, ◌++◌, append_assoc, append-nil, refl, Result, Ok, Err}
use Rattle.std.specs.Result.{IsErrAnd}
use Rattle.set_events.specs.declared.answer.Answer.{Answer}
use Rattle.set_events.specs.declared.event.Actor.{Actor}
use Rattle.set_events.specs.declared.event.Event.{Event}
use Rattle.set_events.specs.declared.history.Entry.{Entry}
use Rattle.set_events.specs.declared.fault.SetFault.{SetFault}
use Rattle.term_model.specs.Talk.{Talk, done, ask, and_then}
use Rattle.term_model.proofs.Talks.{joins, ends_the_same, breaks_first, breaks_later}
use Rattle.link_term.specs.Talking.{Asked, Gains, Breaks, TalksTo}

-- nothing is asked
pub gains_none : {A : Type 0} (a : A) (made : List Entry) → Gains (done a) made made a
gains_none a made = record { entries = []; made_is = sym (append-nil made); went = refl }

-- an event is asked, and the talk goes on by the answer
pub gains_asked : {A : Type 0} (event : Event) (more : Answer → Talk A) (who : Actor) (answer : Answer)
    (made mid made' : List Entry) (outcome : A)
    → mid ≡ made ++ record { who = who; event = event; answer = answer } ∷ []
    → Gains (more answer) mid made' outcome → Gains (ask event more) made made' outcome
gains_asked event more who answer made mid made' outcome is gains =
    let entry : Entry = record { who = who; event = event; answer = answer } in record {
      entries = entry ∷ gains.entries;
      made_is = gains.made_is ∙ ap (λ (m : List Entry). m ++ gains.entries) is ∙ append_assoc made (entry ∷ []) gains.entries;
      went = (refl, gains.went);
    }

-- two talks, one after the other
pub gains_joined : {A B : Type 0} (talk : Talk A) (next : A → Talk B) (made mid made' : List Entry) (a : A) (b : B)
    → Gains talk made mid a → Gains (next a) mid made' b → Gains (and_then talk next) made made' b
gains_joined talk next made mid made' a b first second = record {
  entries = first.entries ++ second.entries;
  made_is = second.made_is ∙ ap (λ (m : List Entry). m ++ second.entries) first.made_is
      ∙ append_assoc made first.entries second.entries;
  went = joins talk next first.entries second.entries a b first.went second.went;
}

-- a fault in the first talk
pub breaks_at_first : {A B : Type 0} (talk : Talk A) (next : A → Talk B) (made made' : List Entry)
    → Breaks talk made made' → Breaks (and_then talk next) made made'
breaks_at_first talk next made made' breaks = record {
  entries = breaks.entries;
  last = breaks.last;
  made_is = breaks.made_is;
  broke_off = breaks_first talk next breaks.entries breaks.last breaks.broke_off;
}

-- a fault in the second
pub breaks_at_last : {A B : Type 0} (talk : Talk A) (next : A → Talk B) (made mid made' : List Entry) (a : A)
    → Gains talk made mid a → Breaks (next a) mid made' → Breaks (and_then talk next) made made'
breaks_at_last talk next made mid made' a first second = record {
  entries = first.entries ++ second.entries;
  last = second.last;
  made_is = second.made_is ∙ ap (λ (m : List Entry). m ++ second.entries) first.made_is
      ∙ append_assoc made first.entries second.entries;
  broke_off = breaks_later talk next first.entries second.entries a second.last first.went second.broke_off;
}

-- THE SAME OF TALKS THAT MAY BREAK OFF.

-- the first talk went, and the second may break off
pub talks_then : {A B R : Type 0} (talk : Talk A) (next : A → Talk B) (result : Result R SetFault) (before mid after : Asked)
    (a : A) (outcome : R → B) → Gains talk before.made mid.made a → mid.faults ≡ before.faults
    → TalksTo (next a) result mid after outcome → TalksTo (and_then talk next) result before after outcome
talks_then talk next (Ok it) before mid after a outcome first same second =
    (gains_joined talk next before.made mid.made after.made a (outcome it) first second.0, second.1 ∙ same)
talks_then talk next (Err fault) before mid after a outcome first same second = (
  breaks_at_last talk next before.made mid.made after.made a first second.0,
  second.1 ∙ ap (λ (fs : List SetFault). fs ++ fault ∷ []) same,
)

-- the first talk broke off
pub talks_broken : {A B R : Type 0} (talk : Talk A) (next : A → Talk B) (result : Result R SetFault) (fault : SetFault)
    (before after : Asked) (outcome : R → B) → IsErrAnd result (λ e. e ≡ fault) → Breaks talk before.made after.made
    → after.faults ≡ before.faults ++ fault ∷ [] → TalksTo (and_then talk next) result before after outcome
talks_broken talk next (Ok it) fault before after outcome is breaks told = absurd is
talks_broken talk next (Err other) fault before after outcome is breaks told = (
  breaks_at_first talk next before.made after.made breaks,
  told ∙ ap (λ (f : SetFault). before.faults ++ f ∷ []) (sym is),
)

-- nothing follows
pub talks_ended : {A R : Type 0} (talk : Talk A) (result : Result R SetFault) (before after : Asked) (outcome : R → A)
    → TalksTo talk result before after outcome → TalksTo (and_then talk (λ b. done b)) result before after outcome
talks_ended talk (Ok it) before after outcome talks = (
  record {
    entries = talks.0.entries;
    made_is = talks.0.made_is;
    went = (ends_the_same talk talks.0.entries (outcome it)).1 talks.0.went;
  },
  talks.1,
)
talks_ended talk (Err fault) before after outcome talks =
    (breaks_at_first talk (λ b. done b) before.made after.made talks.0, talks.1)
