-- WHERE EACH LINK STANDS, step by step (`each_stands`): what a link hears is plain, since what the far end sends is
-- (pair_octets); so a turn is as term_asks has it, and keeps the link's standing (Standing.antt); and it brings up no
-- other link. By induction on the steps.
use Rattle.std.proofs.Common.{refl, arith, ap, sym, subst, ◌≡◌, ◌∙◌, ◌<◌, ◌≤◌, ℕ, zero, suc, ◌==◌, ◌&&◌, Bool, true, false, All, List, [], ◌∷◌, ◌++◌, length, map, Option, Some, None, slice_get, slice_set, append-nil}
use Rattle.std.proofs.lemmas.Bool.{eq-eqb}
use Rattle.std.proofs.lemmas.Grind.{flat_map-append}
use Rattle.std.proofs.lemmas.List.{get_or-replicate, length-replicate, length-set}
use Rattle.std.proofs.lemmas.List.Elements.{All-cons, All-head, All-nil, All-tail}
use Rattle.std.proofs.lemmas.Option.{slice_get_cases}
use Rattle.l2_bits.specs.declared.marks.Mark.{Mark}
use Rattle.l2_units.specs.declared.unit.Unit.{Unit as SignalUnit}
use Rattle.set_events.specs.declared.event.Actor.{Actor}
use Rattle.set_events.specs.declared.event.Actor.TheVariants.{Terminal as TerminalOf}
use Rattle.set_events.specs.declared.event.Event.{Event}
use Rattle.set_events.specs.declared.history.Entry.{Entry}
use Rattle.set_model.specs.History.{after}
use Rattle.set_events.specs.declared.config.SetConfig.{SetConfig}
use Rattle.set_model.specs.State.{LinkState, State, has_phase_up, is_settled, is_up, link_is_up, new_link as new_link_state, new_state}
use Rattle.set_model.specs.Step.{step}
use Rattle.set_model.proofs.Lists.{each_set, within}
use Rattle.set_octets.specs.Lives.{GoesOn, IsNoUp}
use Rattle.set_octets.proofs.Lives.{only_up}
use Rattle.term_asks.specs.Asking.{Standing, out, served, standing_of, Falls, stays, drops, tells, Obeys, only_falls, begins, Times, goes_on, completes, Rises, not_yet, comes_up, Hears, passes, is_heard, HearsOne, HearsAll, AsksUp, asks_nothing, asks_again, Serves, idles, gives, Chooses, has_bits, chooses_one, AnswersPlainly, ArePlain, AsksSo, IsOrdinaryTurn, IsPlainOne}
use Rattle.term_asks.specs.Plain.{IsPlainUnit}
use Rattle.term_asks.proofs.Asking.{turns_ask}
use Rattle.term_bench.specs.Ends.{AtLink, BenchState, is_start, new_bench, new_link, new_links, phase_by, told_at}
use Rattle.term_bench.specs.Talks.{IsTalkOfSet, entries_with, outcome_with}
use Rattle.term_bench.specs.Turns.{IsTurnBy}
use Rattle.term_bench.proofs.BenchLemmas.{ended_size}
use Rattle.term_bench.proofs.LinkLemmas.{new_are_numbered}
use Rattle.term_bench.proofs.TalkLemmas.{talk_is_legal}
use Rattle.term_model.specs.Choosing.{Filled}
use Rattle.term_model.specs.Hearing.{unit_in}
use Rattle.term_model.specs.Runs.{Doing, marks_of}
use Rattle.term_model.specs.Talk.{Talk, done, ask}
use Rattle.term_model.specs.Terminal.{Terminal}
use Rattle.term_model.specs.Turn.{turn_talk}
use Rattle.term_model.specs.declared.command.Command.{Command}
use Rattle.term_model.specs.declared.timers.Timers.{Timers}
use Rattle.pair_steps.specs.declared.step.End.{End}
use Rattle.pair_steps.specs.declared.step.End.TheVariants.{A, B}
use Rattle.pair_octets.specs.Calm.{AreCalm, IsCalmCommand}
use Rattle.pair_octets.specs.Passing.{all_turns, doing_in, is_same, other, turns_if, turns_in}
use Rattle.pair_octets.specs.Streams.{AreSound, IsSoundCommand, IsSoundEvent, IsSoundRun, IsSoundStep}
use Rattle.pair_octets.specs.Wires.{Wires, Sides, AreFitting, CommandsIf, Happen, Happens, TakesTurn, is_left, is_refused, new_wires}
use Rattle.pair_octets.specs.declared.step.EndConfig.{EndConfig}
use Rattle.pair_octets.specs.declared.step.LineLengths.{LineLengths}
use Rattle.pair_octets.specs.declared.step.WireStep.{WireStep}
use Rattle.pair_octets.specs.declared.step.WireStep.TheVariants.{Turn, Command as CommandStep, Ask, Damage}
use Rattle.pair_octets.proofs.CalmSteps.{each_status_is_plain, no_status, plain_from}
use Rattle.pair_octets.proofs.OneEnd.{EachLink, ended_each}
use Rattle.pair_octets.proofs.Passing.{each_more, every_unit_is_heard}
use Rattle.pair_octets.proofs.Seen.{length-new_links}
use Rattle.pair_wires.specs.Standing.{StandsAt}
use Rattle.pair_wires.specs.Starting.{EachLinkStandsSo, IsLinkSo}
use Rattle.pair_wires.proofs.Standing.{turns_keep}

-- WHAT A TURN ASKS brings up no other link.
module _ (m link : ℕ) (apart : (link == m) ≡ false) where
  abbrev NoUps : List Entry → Type 0
  NoUps [] = Unit {0}
  NoUps (entry ∷ entries) = IsNoUp m entry.event × NoUps entries

  both_no : (xs ys : List Entry) → NoUps xs → NoUps ys → NoUps (xs ++ ys)
  both_no [] ys a b = b
  both_no (x ∷ xs) ys a b = (a.0, both_no xs ys a.1 b)

  none_no : (entries : List Entry) → entries ≡ [] → NoUps entries
  none_no entries none = subst NoUps (sym none) tt

  one_no : (entry : Entry) (event : Event) (later entries : List Entry) → entries ≡ entry ∷ later → entry.event ≡ event → IsNoUp m event → NoUps later
      → NoUps entries
  one_no entry event later entries one is other rest = subst NoUps (sym one) (subst (IsNoUp m) (sym is) other, rest)

  falls_no : (s s' : Standing) (entries : List Entry) → Falls link s s' entries → NoUps entries
  falls_no s s' entries (stays same none) = none_no entries none
  falls_no s s' entries (drops not_served is_out none) = none_no entries none
  falls_no s s' entries (tells entry is_served is_out one event) = one_no entry (Event.Down link) [] entries one event tt tt

  obeys_no : (started : Bool) (s s' : Standing) (entries : List Entry) → Obeys link started s s' entries → NoUps entries
  obeys_no started s s' entries (only_falls f) = falls_no s s' entries f
  obeys_no started s s' entries (begins is was_out now_is none) = none_no entries none

  times_no : (s s' : Standing) (entries : List Entry) → Times link s s' entries → NoUps entries
  times_no s s' entries (goes_on f) = falls_no s s' entries f
  times_no s s' entries (completes is now_is none) = none_no entries none

  rises_no : (unit : SignalUnit) (s s' : Standing) (entries : List Entry) → Rises link unit s s' entries → NoUps entries
  rises_no unit s s' entries (not_yet same none) = none_no entries none
  rises_no unit s s' entries (comes_up entry is_other is one event risen) = one_no entry (Event.Up link) [] entries one event apart tt

  hears_no : (unit : SignalUnit) (s s' : Standing) (entries : List Entry) → Hears link unit s s' entries → NoUps entries
  hears_no unit s s' entries (passes not_served same none) = none_no entries none
  hears_no unit s s' entries (is_heard is is_other asks) =
      one_no asks.entry (Event.Heard link unit) asks.later entries asks.entries_are asks.asked tt (falls_no _ s' asks.later asks.falls)

  unit_no : (unit : Option SignalUnit) (s s' : Standing) (entries : List Entry) → HearsOne link unit s s' entries → NoUps entries
  unit_no None s s' entries f = falls_no s s' entries f
  unit_no (Some unit) s s' entries h =
      subst NoUps (sym h.entries_are)
      (both_no h.first (h.second ++ h.third) (falls_no s h.judged h.first h.falls)
      (both_no h.second h.third (rises_no unit h.judged h.risen h.second h.rises) (hears_no unit h.risen s' h.third h.hears)))

  all_no : (marks : List Mark) (s s' : Standing) (entries : List Entry) → HearsAll link marks s s' entries → NoUps entries
  all_no [] s s' entries h = none_no entries h.1
  all_no (mark ∷ marks) s s' entries h =
      subst NoUps (sym h.3) (both_no h.1 h.2 (unit_no (unit_in mark) s h.0 h.1 h.4) (all_no marks h.0 s' h.2 h.5))

  asks_no : (s s' : Standing) (entries : List Entry) → AsksUp link s s' entries → NoUps entries
  asks_no s s' entries (asks_nothing never same none) = none_no entries none
  asks_no s s' entries (asks_again entry is one event risen) = one_no entry (Event.Up link) [] entries one event apart tt

  serves_no : (s s' : Standing) (entries : List Entry) (unit : Option SignalUnit) → Serves link s s' entries unit → NoUps entries
  serves_no s s' entries unit (idles not_served same none is) = none_no entries none
  serves_no s s' entries unit (gives entry later is one event given falls) =
      one_no entry (Event.Next link) later entries one event tt (falls_no _ s' later falls)

  chooses_no : (s s' : Standing) (entries : List Entry) (unit : Option SignalUnit) → Chooses link s s' entries unit → NoUps entries
  chooses_no s s' entries unit (has_bits same none no_unit) = none_no entries none
  chooses_no s s' entries unit (chooses_one c) =
      subst NoUps (sym c.entries_are) (both_no c.first c.second (asks_no s c.risen c.first c.asks) (serves_no c.risen s' c.second unit c.serves))

  turn_no : (started stopped : Bool) (marks : List Mark) (s s' : Standing) (entries : List Entry) (unit : Option SignalUnit)
      → AsksSo link started stopped marks s s' entries unit → NoUps entries
  turn_no started stopped marks s s' entries unit a =
      subst NoUps (sym a.entries_are)
      (both_no a.first (a.third ++ (a.fourth ++ a.fifth)) (obeys_no started s a.obeyed a.first a.obeys)
      (both_no a.third (a.fourth ++ a.fifth) (all_no marks a.obeyed a.heard a.third a.hears)
      (both_no a.fourth a.fifth (times_no a.heard a.timed a.fourth a.times) (chooses_no a.timed s' a.fifth unit a.chooses))))

  goes_after : (s : State) (entries : List Entry) → NoUps entries → GoesOn m s (after s entries)
  goes_after s [] others = record { settled = λ is. is; up = λ is. is }
  goes_after s (entry ∷ entries) others =
      let one = only_up m s entry.event others.0 in
      let rest = goes_after (step s entry.event).state entries others.1 in
      record { settled = λ is. rest.settled (one.settled is); up = λ is. one.up (rest.up is) }

-- A LINK, as its set goes on.
goes_so : (m : ℕ) (t : Terminal) (s s' : State) → GoesOn m s s' → IsLinkSo m t s → IsLinkSo m t s'
goes_so m t s s' goes so = record {
  number = so.number;
  ordinary = so.ordinary;
  commanded = so.commanded;
  stands = record { up = λ is. so.stands.up (goes.up is); settled = λ starting. goes.settled (so.stands.settled starting) };
  starts = λ started is. goes.settled (so.starts started is);
}

stop_so : (m : ℕ) (at : AtLink) (s : State) → IsLinkSo m at.terminal s → IsLinkSo m (told_at Command.Stop at).terminal s
stop_so m at s so = record {
  number = so.number;
  ordinary = record {
    served = so.ordinary.served;
    idle = so.ordinary.idle;
    aligned = so.ordinary.aligned;
    paused = so.ordinary.paused;
    busy = so.ordinary.busy;
    due = so.ordinary.due;
    status = so.ordinary.status;
    blind = so.ordinary.blind;
    outage = so.ordinary.outage;
  };
  commanded = record { busy = so.commanded.busy; blind = so.commanded.blind; outage = so.commanded.outage };
  stands = so.stands;
  starts = so.starts;
}

abbrev pub EachSo : BenchState → Type 0
EachSo bench = EachLink (λ n at. IsLinkSo n at.terminal bench.set.state) bench.links

-- A TURN.
pub answers_plain : {T : Type 0} (talk : Talk T) (who : Actor) (s : State) → AnswersPlainly (entries_with talk who s)
answers_plain (done a) who s = tt
answers_plain (ask event more) who s =
    (plain_from (step s event).answer (no_status s event), answers_plain (more (step s event).answer) who (step s event).state)

pub turn_so : (link : ℕ) (old new : Sides) (takes : TakesTurn link old new) → length old.near.links ≤ 16 → ArePlain takes.turns.takes.by_octet.marks
    → EachSo old.near → EachSo new.near
turn_so link old new takes few plain each = λ n at there.
    ended_each (λ m y. IsLinkSo m y.terminal s') (λ m y so. stop_so m y s' so) 0 s s' (slice_set old.near.links link takes.turns.now)
    (each_set (λ m y. IsLinkSo m y.terminal s') old.near.links link takes.turns.now here
    (λ m y apart is. goes_so m y.terminal s s' (others m apart) (each m y is)))
    n at (subst (λ (ls : List AtLink). slice_get ls n ≡ Some at) takes.turns.links_are there)
  where
    s : State
    s = old.near.set.state

    s' : State
    s' = new.near.set.state

    by : IsTurnBy takes.octet (TerminalOf link) old.near.set.state takes.turns.was takes.turn.put takes.turns.takes.entries takes.unit new.near.set.state takes.turns.now
    by = takes.turns.takes.by_octet

    t : Terminal
    t = takes.turns.was.terminal

    so : IsLinkSo link t s
    so = each link takes.turns.was takes.turns.is_at

    talk : Talk Filled
    talk = turn_talk takes.turns.takes.by_octet.marks takes.turns.was.terminal

    entries : List Entry
    entries = entries_with talk (TerminalOf link) s

    legal : IsTalkOfSet talk (TerminalOf link) s
    legal = talk_is_legal talk (TerminalOf link) s (omega (arith, few, within old.near.links link takes.turns.was takes.turns.is_at))

    turned : IsOrdinaryTurn takes.turns.takes.by_octet.marks t entries (outcome_with talk s)
    turned = turns_ask takes.turns.takes.by_octet.marks t entries (outcome_with talk s) so.ordinary so.commanded plain (answers_plain talk (TerminalOf link) s) legal.went by.narrow

    leads : after s entries ≡ s'
    leads = legal.leads ∙ sym by.state_is

    asks : AsksSo link t.commands.start t.commands.stop takes.turns.takes.by_octet.marks (standing_of t) (standing_of (outcome_with talk s).after) entries (outcome_with talk s).unit
    asks = subst (λ (l : ℕ). AsksSo l t.commands.start t.commands.stop takes.turns.takes.by_octet.marks (standing_of t) (standing_of (outcome_with talk s).after) entries (outcome_with talk s).unit)
        so.number turned.asks

    others : (m : ℕ) → (link == m) ≡ false → GoesOn m s s'
    others m apart = subst (GoesOn m s) leads (goes_after m link apart s entries
        (turn_no m link apart t.commands.start t.commands.stop takes.turns.takes.by_octet.marks (standing_of t) (standing_of (outcome_with talk s).after) entries (outcome_with talk s).unit asks))

    here : IsLinkSo link takes.turns.now.terminal s'
    here = subst (λ (u : Terminal). IsLinkSo link u s') (sym by.puts.after_is) (record {
      number = turned.link_is ∙ so.number;
      ordinary = record {
        served = turned.after.served;
        idle = turned.after.idle;
        aligned = turned.after.aligned;
        paused = turned.after.paused;
        busy = turned.after.busy;
        due = turned.after.due;
        status = turned.after.status;
        blind = turned.after.blind;
        outage = turned.after.outage;
      };
      commanded = record { busy = ap (λ c. c.busy) turned.quiet; blind = ap (λ c. c.blind) turned.quiet; outage = ap (λ c. c.outage) turned.quiet };
      stands = subst (StandsAt link (standing_of (outcome_with talk s).after)) leads
          (turns_keep link t.commands.start t.commands.stop takes.turns.takes.by_octet.marks (standing_of t) (standing_of (outcome_with talk s).after) entries (outcome_with talk s).unit s
          asks legal.legal so.stands so.starts);
      starts = λ started is. let no : true ≡ false = sym started ∙ ap (λ c. c.start) turned.quiet in absurd cc;
    })

-- A COMMAND.
told_so : (command : Command) (m : ℕ) (at : AtLink) (s : State) → IsSoundCommand command
    → (is_start command ≡ true → standing_of at.terminal ≡ out → is_settled m s ≡ true) → IsLinkSo m at.terminal s → IsLinkSo m (told_at command at).terminal s
told_so Command.Stop m at s sound may so = stop_so m at s so
told_so Command.Start m at s sound may so = record {
  number = so.number;
  ordinary = record {
    served = so.ordinary.served;
    idle = so.ordinary.idle;
    aligned = so.ordinary.aligned;
    paused = so.ordinary.paused;
    busy = so.ordinary.busy;
    due = so.ordinary.due;
    status = so.ordinary.status;
    blind = so.ordinary.blind;
    outage = so.ordinary.outage;
  };
  commanded = record { busy = so.commanded.busy; blind = so.commanded.blind; outage = so.commanded.outage };
  stands = so.stands;
  starts = λ started is. may refl is;
}
told_so Command.Emergency m at s sound may so = record {
  number = so.number;
  ordinary = record {
    served = so.ordinary.served;
    idle = so.ordinary.idle;
    aligned = so.ordinary.aligned;
    paused = so.ordinary.paused;
    busy = so.ordinary.busy;
    due = so.ordinary.due;
    status = so.ordinary.status;
    blind = so.ordinary.blind;
    outage = so.ordinary.outage;
  };
  commanded = record { busy = so.commanded.busy; blind = so.commanded.blind; outage = so.commanded.outage };
  stands = so.stands;
  starts = so.starts;
}
told_so Command.Calm m at s sound may so = absurd sound
told_so Command.Busy m at s sound may so = absurd sound
told_so Command.Ease m at s sound may so = absurd sound
told_so Command.Blind m at s sound may so = absurd sound
told_so Command.Outage m at s sound may so = absurd sound
told_so Command.Recover m at s sound may so = absurd sound

-- one that isn't refused, of a link that is out of service, is of a settled one
may_start : (m : ℕ) (t : Terminal) (s : State) → StandsAt m (standing_of t) s → (command : Command) → is_start command ≡ true
    → (is_start command && is_left (phase_by (is_up m s) (is_settled m s))) ≡ false → standing_of t ≡ out → is_settled m s ≡ true
may_start m t s stands command start refused is = go (is_up m s) (is_settled m s) refl refl (subst (λ (b : Bool). (b && is_left (phase_by (is_up m s) (is_settled m s))) ≡ false) start refused)
  where
    go : (up settled : Bool) → is_up m s ≡ up → is_settled m s ≡ settled → (true && is_left (phase_by (is_up m s) (is_settled m s))) ≡ false → is_settled m s ≡ true
    go true settled e f left = let no : out ≡ served = sym is ∙ stands.up e in absurd cc
    go false true e f left = f
    go false false e f left = let no : true ≡ false = sym (rw (e, f) refl) ∙ left in absurd cc

command_so : (refused : Bool) (link : ℕ) (command : Command) (old new : BenchState) → is_refused link command old ≡ refused → CommandsIf refused link command old new
    → IsSoundCommand command → EachSo old → EachSo new
command_so true link command old new e same sound each = subst EachSo (sym same) each
command_so false link command old new e told sound each = λ n at there.
    subst (λ (s : State). IsLinkSo n at.terminal s) (sym (ap (λ set. set.state) told.set_is))
    (each_set (λ m y. IsLinkSo m y.terminal old.set.state) old.links link (told_at command told.was)
    (told_so command link told.was old.set.state sound
    (λ start is. may_start link told.was.terminal old.set.state (each link told.was told.is_at).stands command start e is) (each link told.was told.is_at))
    (λ m y apart is. each m y is)
    n at (subst (λ (ls : List AtLink). slice_get ls n ≡ Some at) told.links_are there))

-- WHAT IS ASKED.
asked_no : (event : Event) (m : ℕ) → IsSoundEvent event → IsNoUp m event
asked_no (Event.Offer body) m sound = tt
asked_no Event.Take m sound = tt
asked_no (Event.Find number) m sound = tt
asked_no (Event.Restore link) m sound = tt
asked_no (Event.Redeclare link) m sound = tt
asked_no (Event.Test link) m sound = tt
asked_no (Event.Next link) m sound = absurd sound
asked_no (Event.Heard link unit) m sound = absurd sound
asked_no (Event.Up link) m sound = absurd sound
asked_no (Event.Down link) m sound = absurd sound
asked_no (Event.DownBlind link) m sound = absurd sound
asked_no (Event.NoAnswer link) m sound = absurd sound
asked_no (Event.Timed link) m sound = absurd sound
asked_no (Event.BackTimeout link) m sound = absurd sound

ask_so : (event : Event) (old new : BenchState) → IsSoundEvent event → new.set.state ≡ (step old.set.state event).state → new.links ≡ old.links → EachSo old → EachSo new
ask_so event old new sound is links each n at there =
    subst (λ (s : State). IsLinkSo n at.terminal s) (sym is)
    (goes_so n at.terminal old.set.state (step old.set.state event).state (only_up n old.set.state event (asked_no event n sound))
    (each n at (subst (λ (ls : List AtLink). slice_get ls n ≡ Some at) links there)))

-- STEPS.
pub record AreSo (count : ℕ) (w : Wires) : Type 0 where
  pub a : EachSo w.a
  pub b : EachSo w.b
  pub links_a : length w.a.links ≡ count
  pub links_b : length w.b.links ≡ count

abbrev pub AllPlain : ℕ → (steps : List WireStep) (old new : Wires) → Happen steps old new → Type 0
AllPlain count steps old new happen = (end : End) (link : ℕ) → link < count → ArePlain (marks_of (all_turns end link steps old new happen))

plain_both : (xs ys : List Mark) → ArePlain (xs ++ ys) → ArePlain xs × ArePlain ys
plain_both [] ys plain = (tt, plain)
plain_both (x ∷ xs) ys plain = let rest = plain_both xs ys plain.1 in ((plain.0, rest.0), rest.1)

pub plain_parts : (xs ys : List Doing) → ArePlain (marks_of (xs ++ ys)) → ArePlain (marks_of xs) × ArePlain (marks_of ys)
plain_parts xs ys plain =
    plain_both (marks_of xs) (marks_of ys) (subst ArePlain (flat_map-append (λ (d : Doing). d.marks) xs ys) plain)

pub plain_turn : (doing : Doing) (is : Bool) → is ≡ true → ArePlain (marks_of (turns_if is doing)) → ArePlain doing.marks
plain_turn doing true e plain = subst ArePlain (append-nil doing.marks) plain
plain_turn doing false e plain = let no : true ≡ false = sym e in absurd cc

same_links : (old new : BenchState) → new ≡ old → length new.links ≡ length old.links
same_links old new same = ap (λ (b : BenchState). length b.links) same

turned_links : (link : ℕ) (old new : Sides) (takes : TakesTurn link old new) → length new.near.links ≡ length old.near.links
turned_links link old new takes =
    ap (λ (ls : List AtLink). length ls) takes.turns.links_are
    ∙ ended_size old.near.set.state new.near.set.state (slice_set old.near.links link takes.turns.now) ∙ length-set old.near.links link takes.turns.now

commanded_links : (refused : Bool) (link : ℕ) (command : Command) (old new : BenchState) → CommandsIf refused link command old new → length new.links ≡ length old.links
commanded_links true link command old new same = same_links old new same
commanded_links false link command old new told = ap (λ (ls : List AtLink). length ls) told.links_are ∙ length-set old.links link (told_at command told.was)

same_so : (old new : BenchState) → new ≡ old → EachSo old → EachSo new
same_so old new same each = subst EachSo (sym same) each

pub itself : (l : ℕ) → (l == l) ≡ true
itself l = eq-eqb l l refl

pub step_so : (count : ℕ) → count ≤ 16 → (step : WireStep) (old new : Wires) (happens : Happens step old new) → IsSoundStep step
    → ((end : End) (link : ℕ) → link < count → ArePlain (marks_of (turns_in end link step old new happens))) → AreSo count old → AreSo count new
step_so count few (Turn A link) old new takes sound plain so = record {
  a = turn_so link _ _ takes (omega (arith, few, so.links_a))
      (plain_turn (doing_in link _ _ takes) (is_same A A && (link == link)) (itself link)
      (plain A link (omega (arith, within old.a.links link takes.turns.was takes.turns.is_at, so.links_a)))) so.a;
  b = same_so old.b new.b takes.far_is so.b;
  links_a = turned_links link _ _ takes ∙ so.links_a;
  links_b = same_links old.b new.b takes.far_is ∙ so.links_b;
}
step_so count few (Turn B link) old new takes sound plain so = record {
  a = same_so old.a new.a takes.far_is so.a;
  b = turn_so link _ _ takes (omega (arith, few, so.links_b))
      (plain_turn (doing_in link _ _ takes) (is_same B B && (link == link)) (itself link)
      (plain B link (omega (arith, within old.b.links link takes.turns.was takes.turns.is_at, so.links_b)))) so.b;
  links_a = same_links old.a new.a takes.far_is ∙ so.links_a;
  links_b = turned_links link _ _ takes ∙ so.links_b;
}
step_so count few (CommandStep A link command) old new takes sound plain so = record {
  a = command_so (is_refused link command old.a) link command old.a new.a refl takes.commands sound so.a;
  b = same_so old.b new.b takes.only.far_is so.b;
  links_a = commanded_links (is_refused link command old.a) link command old.a new.a takes.commands ∙ so.links_a;
  links_b = same_links old.b new.b takes.only.far_is ∙ so.links_b;
}
step_so count few (CommandStep B link command) old new takes sound plain so = record {
  a = same_so old.a new.a takes.only.far_is so.a;
  b = command_so (is_refused link command old.b) link command old.b new.b refl takes.commands sound so.b;
  links_a = same_links old.a new.a takes.only.far_is ∙ so.links_a;
  links_b = commanded_links (is_refused link command old.b) link command old.b new.b takes.commands ∙ so.links_b;
}
step_so count few (Ask A who event) old new asked sound plain so = record {
  a = ask_so event old.a new.a sound asked.is_step.state_is asked.links_are so.a;
  b = same_so old.b new.b asked.only.far_is so.b;
  links_a = ap (λ (ls : List AtLink). length ls) asked.links_are ∙ so.links_a;
  links_b = same_links old.b new.b asked.only.far_is ∙ so.links_b;
}
step_so count few (Ask B who event) old new asked sound plain so = record {
  a = same_so old.a new.a asked.only.far_is so.a;
  b = ask_so event old.b new.b sound asked.is_step.state_is asked.links_are so.b;
  links_a = same_links old.a new.a asked.only.far_is ∙ so.links_a;
  links_b = ap (λ (ls : List AtLink). length ls) asked.links_are ∙ so.links_b;
}
step_so count few (Damage A link place octet) old new damaged sound plain so = record {
  a = same_so old.a new.a damaged.near_is so.a;
  b = same_so old.b new.b damaged.far_is so.b;
  links_a = same_links old.a new.a damaged.near_is ∙ so.links_a;
  links_b = same_links old.b new.b damaged.far_is ∙ so.links_b;
}
step_so count few (Damage B link place octet) old new damaged sound plain so = record {
  a = same_so old.a new.a damaged.far_is so.a;
  b = same_so old.b new.b damaged.near_is so.b;
  links_a = same_links old.a new.a damaged.far_is ∙ so.links_a;
  links_b = same_links old.b new.b damaged.near_is ∙ so.links_b;
}

steps_so : (count : ℕ) → count ≤ 16 → (steps : List WireStep) (old new : Wires) (happen : Happen steps old new) → AreSound steps → AllPlain count steps old new happen
    → AreSo count old → AreSo count new
steps_so count few [] old new same sound plain so = subst (AreSo count) (sym same) so
steps_so count few (step ∷ steps) old new happen sound plain so =
    let parts = λ (end : End) (link : ℕ) (in_range : link < count).
    plain_parts (turns_in end link step old happen.0 happen.1) (all_turns end link steps happen.0 new happen.2) (plain end link in_range) in
    steps_so count few steps happen.0 new happen.2 sound.1 (λ end link in_range. (parts end link in_range).1)
    (step_so count few step old happen.0 happen.1 sound.0 (λ end link in_range. (parts end link in_range).0) so)

-- AT FIRST
pub down_first : (config : SetConfig) (m : ℕ) → is_up m (new_state config) ≡ false
down_first config m = go (slice_get (new_state config).links m) refl
  where
    go : (found : Option LinkState) → slice_get (new_state config).links m ≡ found → link_is_up found ≡ false
    go None e = refl
    go (Some link) e =
        let link_is : link ≡ new_link_state config.profile config.method =
        grind (arith, e, slice_get_cases (new_state config).links m, get_or-replicate, length-replicate) in
        ap (λ (l : LinkState). has_phase_up l.phase) link_is

pub record IsNewLink (lengths : Timers) (at : AtLink) : Type 0 where
  pub number : ℕ
  pub is : at ≡ new_link lengths number

pub each_new : (lengths : Timers) (n : ℕ) → EachLink (λ m at. IsNewLink lengths at) (new_links lengths n)
each_new lengths zero m at there = absurd cc
each_new lengths (suc n) m at there =
    each_more (λ at. IsNewLink lengths at) (new_links lengths n) (new_link lengths n) (each_new lengths n) (record { number = n; is = refl }) m at there

opened_so : (lengths : Timers) (k : ℕ) (s : State) → is_up k s ≡ false → IsLinkSo k (new_link lengths k).terminal s
opened_so lengths k s down = record {
  number = refl;
  ordinary = record { served = λ up. absurd cc; idle = λ is. refl; aligned = λ is. refl; paused = refl; busy = refl; due = refl; status = refl; blind = refl; outage = refl };
  commanded = record { busy = refl; blind = refl; outage = refl };
  stands = record { up = λ up. let no : true ≡ false = sym up ∙ down in absurd cc; settled = λ starting. absurd starting };
  starts = λ started. absurd cc;
}

end_so : (config : EndConfig) → EachSo (new_bench config.set config.timers)
end_so config m at there =
    let one = each_new config.timers config.set.links m at there in
    let same : one.number ≡ m = sym (ap (λ (a : AtLink). a.terminal.link) one.is) ∙ (new_are_numbered (new_links config.timers config.set.links) config.timers config.set.links refl config.set.links_in_range).0 m at there in
    subst (λ (a : AtLink). IsLinkSo m a.terminal (new_state config.set)) (sym one.is)
    (subst (λ (k : ℕ). IsLinkSo k (new_link config.timers one.number).terminal (new_state config.set)) same
    (opened_so config.timers one.number (new_state config.set) (down_first config.set one.number)))

-- WHAT IS HEARD is plain
plain_heard : (marks : List Mark) (heard : List SignalUnit) → map unit_in marks ≡ map (λ unit. Some unit) heard → All IsPlainUnit heard → ArePlain marks
plain_heard [] heard same all = tt
plain_heard (mark ∷ marks) [] same all = absurd cc
plain_heard (mark ∷ marks) (unit ∷ heard) same all =
    let first : unit_in mark ≡ Some unit = cc in
    let rest : map unit_in marks ≡ map (λ unit. Some unit) heard = cc in
    (subst IsPlainOne (sym first) (All-head IsPlainUnit unit heard all), plain_heard marks heard rest (All-tail IsPlainUnit unit heard all))

calm_command : (command : Command) → IsSoundCommand command → IsCalmCommand command
calm_command Command.Emergency sound = tt
calm_command Command.Start sound = tt
calm_command Command.Stop sound = tt
calm_command Command.Busy sound = absurd sound
calm_command Command.Ease sound = tt
calm_command Command.Blind sound = tt
calm_command Command.Calm sound = tt
calm_command Command.Outage sound = absurd sound
calm_command Command.Recover sound = tt

pub calm_steps : (steps : List WireStep) → AreSound steps → AreCalm steps
calm_steps [] sound = tt
calm_steps (Turn end link ∷ steps) sound = (tt, calm_steps steps sound.1)
calm_steps (CommandStep end link command ∷ steps) sound = (calm_command command sound.0, calm_steps steps sound.1)
calm_steps (Ask end who event ∷ steps) sound = (tt, calm_steps steps sound.1)
calm_steps (Damage end link place octet ∷ steps) sound = (tt, calm_steps steps sound.1)

pub so_first : (a b : EndConfig) (lengths : List LineLengths) → AreFitting a b lengths → AreSo (length lengths) (new_wires a b lengths)
so_first a b lengths fitting = record {
  a = end_so a;
  b = end_so b;
  links_a = length-new_links a.timers a.set.links ∙ sym fitting.lines;
  links_b = length-new_links b.timers b.set.links ∙ sym fitting.links ∙ sym fitting.lines;
}

pub links_few : (a b : EndConfig) (lengths : List LineLengths) → AreFitting a b lengths → length lengths ≤ 16
links_few a b lengths fitting = omega (arith, fitting.lines, a.set.links_in_range)

-- THE LAW.
first_plain : (first later : List SignalUnit) → All IsPlainUnit (first ++ later) → All IsPlainUnit first
first_plain [] later all = All-nil IsPlainUnit
first_plain (unit ∷ first) later all =
    All-cons IsPlainUnit unit first (All-head IsPlainUnit unit (first ++ later) all) (first_plain first later (All-tail IsPlainUnit unit (first ++ later) all))

module _ (a b : EndConfig) (lengths : List LineLengths) (steps : List WireStep) (w : Wires) (run : IsSoundRun a b lengths steps w) where
  pub all_plain : AllPlain (length lengths) steps (new_wires a b lengths) w run.run.happen
  all_plain end link in_range =
      let passed = every_unit_is_heard a b lengths steps w run.run run.so.lines end link in_range in
      let sent = each_status_is_plain a b lengths steps w run.run (calm_steps steps run.so.sound) (other end) link in
      plain_heard (marks_of (all_turns end link steps (new_wires a b lengths) w run.run.happen)) passed.heard passed.heard_are
      (first_plain passed.heard passed.under_way (subst (λ (us : List SignalUnit). All IsPlainUnit us) passed.sent_are sent))

  pub first_so : AreSo (length lengths) (new_wires a b lengths)
  first_so = so_first a b lengths run.run.fitting

  pub few_links : length lengths ≤ 16
  few_links = links_few a b lengths run.run.fitting

  all_so : AreSo (length lengths) w
  all_so = steps_so (length lengths) few_links steps (new_wires a b lengths) w run.run.happen run.so.sound all_plain first_so

pub each_stands : EachLinkStandsSo
each_stands a b lengths steps w run A link at there = (all_so a b lengths steps w run).a link at there
each_stands a b lengths steps w run B link at there = (all_so a b lengths steps w run).b link at there
