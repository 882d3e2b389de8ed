-- A turn with the octet of a timeslot: that octet was taken, and one was put.
use Rattle.std.proofs.Common.{refl, sym, ap, subst, ◌≡◌, ◌∙◌, ℕ, ◌+◌, Bool, true, false, List, [], ◌∷◌, ◌++◌, Option, Some, None, if◌then◌else◌, zero-add}
use Rattle.std.specs.Option.{ForSome, option_to_list}
use Rattle.std.proofs.lemmas.List.{append_cancel_left}
use Rattle.link_term.specs.Filling.{filling_of, with_unit}
use Rattle.link_term.specs.Looking.{seen}
use Rattle.link_term.specs.Standing.{standing}
use Rattle.link_term.specs.Turning.{TurnFails, TurnsOnce, by_fault, by_profile}
use Rattle.link_term.specs.declared.counts.Turned.{Turned}
use Rattle.link_term.specs.declared.fault.TermFault.{TermFault}
use Rattle.set_events.specs.declared.event.Actor.TheVariants.{Terminal as TerminalOf}
use Rattle.set_events.specs.declared.fault.SetFault.{SetFault}
use Rattle.set_events.specs.declared.history.Entry.{Entry}
use Rattle.set_model.specs.History.{LinkSet, IsLegal, after, entries_in}
use Rattle.set_model.specs.State.{State}
use Rattle.term_model.specs.Choosing.{Filled}
use Rattle.term_model.specs.OctetIn.{GivesMarks}
use Rattle.term_model.specs.OctetOut.{PutsOctet}
use Rattle.term_model.specs.Terminal.{Terminal}
use Rattle.term_model.specs.Turn.{turn_talk}
use Rattle.l2_bits.specs.LineBits.{line_bits}
use Rattle.term_bench.specs.Going.{AreTold, GoesOn}
use Rattle.term_bench.specs.Slots.{places_in}
use Rattle.term_bench.specs.Taking.{Takes}
use Rattle.term_bench.specs.Turns.{AreBy, FailsBy, by_set, by_wide, messages_heard}
use Rattle.term_bench.proofs.TalkLemmas.{by_steps, after-append, legal_later}

-- the octet that was there is the one that was taken
taken_octet : (octet : Option ℕ) (there there' : ℕ) (is_taken : Bool) (given waiting : List ℕ)
    → given ≡ [] → waiting ≡ there ∷ [] → there' ≡ there
    → (if is_taken then there' ∷ [] else []) ≡ given ++ option_to_list octet → (octet ≡ None → waiting ≡ [])
    → octet ≡ Some there
taken_octet None there there' is_taken given waiting none one same is none_waited =
    let nothing : there ∷ [] ≡ [] = sym one ∙ none_waited refl in cc
taken_octet (Some octet) there there' true given waiting none one same is none_waited =
    let both : there' ∷ [] ≡ octet ∷ [] = is ∙ ap (λ (os : List ℕ). os ++ octet ∷ []) none in cc
taken_octet (Some octet) there there' false given waiting none one same is none_waited =
    let both : [] ≡ octet ∷ [] = is ∙ ap (λ (os : List ℕ). os ++ octet ∷ []) none in cc

out_is : (octet : ℕ) (put : Option ℕ) (out old : List ℕ) → put ≡ Some octet → old ≡ [] → option_to_list put ≡ old ++ out
    → out ≡ octet ∷ []
out_is octet put out old some none is =
    sym (ap (λ (os : List ℕ). os ++ out) none) ∙ sym is ∙ ap (λ (o : Option ℕ). option_to_list o) some

-- what the set's law says of it
pub record Replays (set : LinkSet) : Type 0 where
  pub legal : IsLegal set.base.state set.history
  pub agrees : set.state ≡ after set.base.state set.history

-- so the entries that it goes on by are legal from where it stood, and lead to where it stands
record LeadsOn (old new : LinkSet) (entries : List Entry) : Type 0 where
  legal : IsLegal old.state entries
  leads : new.state ≡ after old.state entries

leads_on : (old new : LinkSet) (entries : List Entry) → Replays old → Replays new → new.base ≡ old.base
    → new.history ≡ old.history ++ entries → LeadsOn old new entries
leads_on old new entries old_law new_law base history =
    let legal : IsLegal old.base.state (old.history ++ entries) =
    subst (λ (es : List Entry). IsLegal old.base.state es) history
    (subst (λ (s : State). IsLegal s new.history) (ap (λ b. b.state) base) new_law.legal) in
    record {
      legal = subst (λ (s : State). IsLegal s entries) (sym old_law.agrees) (legal_later old.base.state old.history entries legal);
      leads = new_law.agrees ∙ ap (λ (s : State). after s new.history) (ap (λ b. b.state) base)
          ∙ ap (λ (es : List Entry). after old.base.state es) history
          ∙ after-append old.base.state old.history entries
          ∙ ap (λ (s : State). after s entries) (sym old_law.agrees);
    }

narrow_unit : (f : Filled) → f.narrow ≡ true → filling_of f ≡ with_unit f.unit
narrow_unit f narrow = ap (λ (n : Bool). filling_of (record f { narrow = n })) narrow

-- A TURN IN A TIMESLOT takes its octet and puts one, and the set's step answers it
pub takes : (link link' octet : ℕ) (set set' : LinkSet) (heard heard' : ℕ) (taken taken' : List ℕ) (before after : Terminal)
    (turned : Turned) (there : ℕ) (is_taken : Bool) (slot : Option ℕ) (put : ℕ) (given waiting old : List ℕ)
    {faults faults' : List SetFault} {late late' : List ℕ} {free : ℕ} {waiting' : List ℕ}
    (turns : TurnsOnce (standing taken before set.history faults (seen given waiting old free)) turned
    (standing taken' after set'.history faults'
    (seen (if is_taken then there ∷ [] else []) waiting' (option_to_list slot) (places_in slot))))
    → GoesOn link link' set set' heard heard' faults faults' late late' → Replays set → Replays set' → heard ≡ 0
    → given ≡ [] → waiting ≡ octet ∷ [] → there ≡ octet → old ≡ [] → slot ≡ Some put
    → Takes link octet set set' heard' taken taken' before after put turned turns.turn.chosen.unit
takes link link' octet set set' heard heard' taken taken' before after turned there is_taken slot put given waiting old turns goes
    law law' unheard none one same unput some =
    let there_is : turns.octet ≡ Some octet =
    taken_octet turns.octet octet there is_taken given waiting none one same turns.looks.passes.given_is
    turns.looks.none_waited in
    let out : turns.out ≡ put ∷ [] = out_is put slot turns.out old some unput turns.looks.passes.put_is in
    let entries : turns.entries ≡ goes.entries =
    append_cancel_left set.history turns.entries goes.entries (sym turns.made_is ∙ goes.history_is) in
    let on = leads_on set set' turns.entries law law' goes.base_is turns.made_is in
    let by = by_steps (turn_talk turns.marks before) (TerminalOf link) set.state turns.entries turns.turn.chosen turns.turn.went
    on.legal (subst (λ (es : List Entry). AreBy (TerminalOf link) es) (sym entries) goes.by) in record {
      marks = turns.marks;
      entries = turns.entries;
      gives = subst (λ (o : Option ℕ). GivesMarks (line_bits taken) o turns.marks) there_is turns.turn.gives;
      entries_are = by.entries_are;
      state_is = on.leads ∙ by.state_is;
      narrow = sym (ap (λ (f : Filled). f.narrow) by.outcome_is) ∙ turns.turn.narrow;
      unit_is = ap (λ (f : Filled). f.unit) by.outcome_is;
      puts = subst (λ (f : Filled). PutsOctet f (put ∷ []) after) by.outcome_is
          (subst (λ (os : List ℕ). PutsOctet turns.turn.chosen os after) out turns.turn.puts);
      taken_is = turns.taken_is ∙ ap (λ (o : Option ℕ). taken ++ option_to_list o) there_is;
      base_is = goes.base_is;
      history_is = turns.made_is;
      heard_is = goes.heard_is ∙ ap (λ n. n + messages_heard goes.entries) unheard ∙ zero-add (messages_heard goes.entries)
          ∙ ap (λ (es : List Entry). messages_heard es) (sym entries);
      marks_are = turns.counts_are;
      filling_is = turns.filling_is ∙ narrow_unit turns.turn.chosen turns.turn.narrow;
    }

-- what was taken, if anything was, is the octet that was there
came_is : (came : Option ℕ) (octet there : ℕ) (is_taken : Bool) (given : List ℕ) → given ≡ [] → there ≡ octet
    → (if is_taken then there ∷ [] else []) ≡ given ++ option_to_list came → ForSome came (λ o. o ≡ octet)
came_is None octet there is_taken given none same is = λ x some. absurd (cc some)
came_is (Some o) octet there true given none same is = λ x some.
    let both : there ∷ [] ≡ o ∷ [] = is ∙ ap (λ (os : List ℕ). os ++ o ∷ []) none in cc (both, some, same)
came_is (Some o) octet there false given none same is = λ x some.
    let both : [] ≡ o ∷ [] = is ∙ ap (λ (os : List ℕ). os ++ o ∷ []) none in absurd (cc both)

-- A TURN IN A TIMESLOT that failed, as the link tells it
pub fails_by : (octet : ℕ) (fault : TermFault) (taken taken' : List ℕ) (before after : Terminal) (link link' : ℕ) (set set' : LinkSet)
    (heard heard' : ℕ) (there : ℕ) (is_taken : Bool) (given : List ℕ)
    {faults faults' : List SetFault} {late late' waiting waiting' put put' : List ℕ} {free free' : ℕ}
    → TurnFails fault (standing taken before set.history faults (seen given waiting put free))
    (standing taken' after set'.history faults' (seen (if is_taken then there ∷ [] else []) waiting' put' free'))
    → GoesOn link link' set set' heard heard' faults faults' late late' → given ≡ [] → there ≡ octet
    → (entries : List Entry) × (set'.history ≡ set.history ++ entries) × FailsBy octet fault taken taken' before after set set' entries
fails_by octet fault taken taken' before after link link' set set' heard heard' there is_taken given {faults} (by_fault broken turn) goes none same = (
  turn.entries,
  turn.made_is,
  by_set broken.told turn.octet turn.last broken.fault_is
      (subst (λ (fs : List SetFault). AreTold (entries_in set) (entries_in set') fs)
      (append_cancel_left faults goes.told (broken.told ∷ []) (sym goes.faults_are ∙ broken.faults_are)) goes.told_is).0
      (came_is turn.octet octet there is_taken given none same turn.passes.given_is) turn.taken_is
      turn.turn,
)
fails_by octet fault taken taken' before after link link' set set' heard heard' there is_taken given (by_profile is unchanged turn) goes none same = (
  turn.entries,
  turn.made_is,
  by_wide turn.octet is (came_is turn.octet octet there is_taken given none same turn.passes.given_is) turn.taken_is turn.turn turn.after_is,
)
