-- Talks with a set, and the entries that they make.
use Rattle.std.proofs.Common.{refl, sym, ap, subst, ◌≡◌, ◌∙◌, ℕ, List, [], ◌∷◌, ◌++◌, Option}
use Rattle.l2_units.specs.declared.unit.Unit.{Unit as SignalUnit}
use Rattle.set_events.specs.declared.answer.Answer.{Answer}
use Rattle.set_events.specs.declared.event.Actor.{Actor}
use Rattle.set_events.specs.declared.event.Event.{Event}
use Rattle.set_events.specs.declared.history.Entry.{Entry}
use Rattle.set_model.specs.History.{IsActor, IsLegal, after}
use Rattle.set_model.specs.State.{State}
use Rattle.set_model.specs.Step.{step}
use Rattle.term_model.specs.Talk.{Talk, done, ask, Went}
use Rattle.term_model.specs.Turn.{turn_talk}
use Rattle.term_bench.specs.Ends.{AtLink}
use Rattle.term_bench.specs.Talks.{entries_with, outcome_with, state_with, IsTalkOfSet}
use Rattle.term_bench.specs.Turns.{AreBy, IsOfTerminal, IsTurnBy}

-- a talk with the set is one that went, and its entries are legal
pub talk_is_legal : {A : Type 0} (talk : Talk A) (who : Actor) (s : State) → IsActor who → IsTalkOfSet talk who s
talk_is_legal (done a) who s actor = record { went = refl; legal = tt; leads = refl }
talk_is_legal (ask event more) who s actor =
    let rest = talk_is_legal (more (step s event).answer) who (step s event).state actor in record {
      went = (refl, rest.went);
      legal = (actor, refl, rest.legal);
      leads = rest.leads;
    }

-- the other way: where it went, and the entries are legal and of this actor, they are those of the talk with the set
pub record IsBySteps {A : Type 0} (talk : Talk A) (who : Actor) (s : State) (entries : List Entry) (b : A) : Type 0 where
  pub entries_are : entries ≡ entries_with talk who s
  pub outcome_is : b ≡ outcome_with talk s
  pub state_is : after s entries ≡ state_with talk s

same_entry : (entry : Entry) (who : Actor) (event : Event) (answer : Answer)
    → entry.who ≡ who → entry.event ≡ event → entry.answer ≡ answer
    → entry ≡ record { who = who; event = event; answer = answer }
same_entry entry who event answer by asked told =
    ap (λ (w : Actor). record entry { who = w }) by
    ∙ ap (λ (e : Event). record entry { who = who; event = e }) asked
    ∙ ap (λ (a : Answer). record entry { who = who; event = event; answer = a }) told

pub by_steps : {A : Type 0} (talk : Talk A) (who : Actor) (s : State) (entries : List Entry) (b : A)
    → Went talk entries b → IsLegal s entries → AreBy who entries → IsBySteps talk who s entries b
by_steps (done a) who s [] b went legal by = record { entries_are = refl; outcome_is = went; state_is = refl }
by_steps (done a) who s (entry ∷ entries) b went legal by = absurd went
by_steps (ask event more) who s [] b went legal by = absurd went
by_steps (ask event more) who s (entry ∷ entries) b went legal by =
    let asked : entry.event ≡ event = went.0 in
    let told : entry.answer ≡ (step s event).answer = legal.1 ∙ ap (λ (e : Event). (step s e).answer) asked in
    let rest = by_steps (more (step s event).answer) who (step s event).state entries b
    (subst (λ (a : Answer). Went (more a) entries b) told went.1)
    (subst (λ (e : Event). IsLegal (step s e).state entries) asked legal.2) by.1 in record {
      entries_are = ap (λ (e : Entry). e ∷ entries) (same_entry entry who event (step s event).answer by.0 asked told)
          ∙ ap (λ (es : List Entry). record { who = who; event = event; answer = (step s event).answer } ∷ es) rest.entries_are;
      outcome_is = rest.outcome_is;
      state_is = ap (λ (e : Event). after (step s e).state entries) asked ∙ rest.state_is;
    }

-- what a history's later entries lead to, from where its first ones do
pub after-append : (s : State) (first later : List Entry) → after s (first ++ later) ≡ after (after s first) later
after-append s [] later = refl
after-append s (entry ∷ first) later = after-append (step s entry.event).state first later

pub legal_later : (s : State) (first later : List Entry) → IsLegal s (first ++ later) → IsLegal (after s first) later
legal_later s [] later legal = legal
legal_later s (entry ∷ first) later legal = legal_later (step s entry.event).state first later legal.2

-- a turn by an octet is a terminal's
pub turn_is_of_terminal : (octet : ℕ) (who : Actor) (s s' : State) (at at' : AtLink) (put : ℕ) (entries : List Entry)
    (unit : Option SignalUnit) → IsActor who → IsTurnBy octet who s at put entries unit s' at'
    → IsOfTerminal octet s at put entries s' at'
turn_is_of_terminal octet who s s' at at' put entries unit actor by_octet =
    let talk = talk_is_legal (turn_talk by_octet.marks at.terminal) who s actor in record {
      marks = by_octet.marks;
      turn = record {
        gives = by_octet.gives;
        chosen = outcome_with (turn_talk by_octet.marks at.terminal) s;
        went = subst (λ (es : List Entry). Went (turn_talk by_octet.marks at.terminal) es (outcome_with (turn_talk by_octet.marks at.terminal) s)) (sym by_octet.entries_are) talk.went;
        narrow = by_octet.narrow;
        puts = by_octet.puts;
      };
      legal = subst (λ (es : List Entry). IsLegal s es) (sym by_octet.entries_are) talk.legal;
      leads = ap (λ (es : List Entry). after s es) by_octet.entries_are ∙ talk.leads ∙ sym by_octet.state_is;
    }
