-- WHAT EACH TURN ASKS, step by step (`each_turn`): a turn is as term_asks has it, since each link stands so
-- (Starting.antt).
use Rattle.std.proofs.Common.{arith, ap, sym, subst, ◌∙◌, ◌<◌, ◌≤◌, ◌==◌, ◌&&◌, ℕ, List, [], ◌∷◌, length, Option}
use Rattle.l2_bits.specs.declared.marks.Mark.{Mark}
use Rattle.l2_units.specs.declared.unit.Unit.{Unit as SignalUnit}
use Rattle.set_events.specs.declared.event.Actor.TheVariants.{Terminal as TerminalOf}
use Rattle.set_events.specs.declared.history.Entry.{Entry}
use Rattle.set_model.specs.History.{IsLegal, after}
use Rattle.set_model.specs.State.{State}
use Rattle.set_model.proofs.Lists.{within}
use Rattle.term_asks.specs.Asking.{ArePlain, AsksSo, IsOrdinaryTurn, Standing, standing_of}
use Rattle.term_asks.proofs.Asking.{turns_ask}
use Rattle.term_bench.specs.Talks.{IsTalkOfSet, entries_with, outcome_with}
use Rattle.term_bench.specs.Turns.{IsTurnBy}
use Rattle.term_bench.proofs.TalkLemmas.{talk_is_legal}
use Rattle.term_model.specs.Choosing.{Filled}
use Rattle.term_model.specs.Runs.{marks_of}
use Rattle.term_model.specs.Talk.{Talk}
use Rattle.term_model.specs.Terminal.{Terminal}
use Rattle.term_model.specs.Turn.{turn_talk}
use Rattle.pair_steps.specs.declared.step.End.{End}
use Rattle.pair_steps.specs.declared.step.End.TheVariants.{A, B}
use Rattle.pair_octets.specs.Passing.{all_turns, doing_in, is_same, turns_in}
use Rattle.pair_octets.specs.Streams.{AreSound}
use Rattle.pair_octets.specs.Wires.{Wires, Sides, Happen, Happens, TakesTurn, new_wires}
use Rattle.pair_octets.specs.declared.step.WireStep.{WireStep}
use Rattle.pair_octets.specs.declared.step.WireStep.TheVariants.{Turn, Command as CommandStep, Ask, Damage}
use Rattle.pair_wires.specs.Starting.{IsLinkSo}
use Rattle.pair_wires.specs.Turning.{AtEachTurn, EachTurnAsksSo, IfTurn, TurnAsksSo}
use Rattle.pair_wires.proofs.Starting.{AllPlain, AreSo, EachSo, all_plain, answers_plain, few_links, first_so, itself, plain_parts, plain_turn, step_so}

turn_asks : (link : ℕ) (old new : Sides) (takes : TakesTurn link old new) → length old.near.links ≤ 16 → ArePlain takes.turns.takes.by_octet.marks
    → EachSo old.near → TurnAsksSo link old new takes
turn_asks link old new takes few plain each = record {
  plain = plain;
  asks = subst (λ (es : List Entry). AsksSo link t.commands.start t.commands.stop marks (standing_of t) (standing_of takes.turns.now.terminal) es takes.unit) (sym by.entries_are)
      (subst (λ (u : Option SignalUnit). AsksSo link t.commands.start t.commands.stop marks (standing_of t) (standing_of takes.turns.now.terminal) entries u) (sym by.unit_is)
      (subst (λ (x : Standing). AsksSo link t.commands.start t.commands.stop marks (standing_of t) x entries (outcome_with talk s).unit)
      (ap standing_of (sym by.puts.after_is))
      (subst (λ (l : ℕ). AsksSo l t.commands.start t.commands.stop marks (standing_of t) (standing_of (outcome_with talk s).after) entries (outcome_with talk s).unit)
      so.number turned.asks)));
  legal = subst (IsLegal s) (sym by.entries_are) legal.legal;
  leads = ap (after s) by.entries_are ∙ legal.leads ∙ sym by.state_is;
}
  where
    s : State
    s = old.near.set.state

    t : Terminal
    t = takes.turns.was.terminal

    marks : List Mark
    marks = takes.turns.takes.by_octet.marks

    by : IsTurnBy takes.octet (TerminalOf link) old.near.set.state takes.turns.was takes.turn.put takes.turns.takes.entries takes.unit new.near.set.state takes.turns.now
    by = takes.turns.takes.by_octet

    so : IsLinkSo link t s
    so = each link takes.turns.was takes.turns.is_at

    talk : Talk Filled
    talk = turn_talk takes.turns.takes.by_octet.marks takes.turns.was.terminal

    entries : List Entry
    entries = entries_with talk (TerminalOf link) s

    legal : IsTalkOfSet talk (TerminalOf link) s
    legal = talk_is_legal talk (TerminalOf link) s (omega (arith, few, within old.near.links link takes.turns.was takes.turns.is_at))

    turned : IsOrdinaryTurn takes.turns.takes.by_octet.marks t entries (outcome_with talk s)
    turned = turns_ask takes.turns.takes.by_octet.marks t entries (outcome_with talk s) so.ordinary so.commanded plain (answers_plain talk (TerminalOf link) s) legal.went by.narrow

one_asks : (count : ℕ) → count ≤ 16 → (step : WireStep) (old new : Wires) (happens : Happens step old new)
    → ((end : End) (link : ℕ) → link < count → ArePlain (marks_of (turns_in end link step old new happens))) → AreSo count old → IfTurn step old new happens
one_asks count few (Turn A link) old new takes plain so =
    turn_asks link _ _ takes (omega (arith, few, so.links_a))
    (plain_turn (doing_in link _ _ takes) (is_same A A && (link == link)) (itself link)
    (plain A link (omega (arith, within old.a.links link takes.turns.was takes.turns.is_at, so.links_a)))) so.a
one_asks count few (Turn B link) old new takes plain so =
    turn_asks link _ _ takes (omega (arith, few, so.links_b))
    (plain_turn (doing_in link _ _ takes) (is_same B B && (link == link)) (itself link)
    (plain B link (omega (arith, within old.b.links link takes.turns.was takes.turns.is_at, so.links_b)))) so.b
one_asks count few (CommandStep end link command) old new happens plain so = tt
one_asks count few (Ask end who event) old new happens plain so = tt
one_asks count few (Damage end link place octet) old new happens plain so = tt

pub all_ask : (count : ℕ) → count ≤ 16 → (steps : List WireStep) (old new : Wires) (happen : Happen steps old new) → AreSound steps → AllPlain count steps old new happen
    → AreSo count old → AtEachTurn steps old new happen
all_ask count few [] old new same sound plain so = tt
all_ask count few (step ∷ steps) old new happen sound plain so =
    let parts = λ (end : End) (link : ℕ) (in_range : link < count).
    plain_parts (turns_in end link step old happen.0 happen.1) (all_turns end link steps happen.0 new happen.2) (plain end link in_range) in
    let first = λ (end : End) (link : ℕ) (in_range : link < count). (parts end link in_range).0 in (
      one_asks count few step old happen.0 happen.1 first so,
      all_ask count few steps happen.0 new happen.2 sound.1 (λ end link in_range. (parts end link in_range).1)
          (step_so count few step old happen.0 happen.1 sound.0 first so),
    )

pub each_turn : EachTurnAsksSo
each_turn a b lengths steps w run =
    all_ask (length lengths) (few_links a b lengths steps w run) steps (new_wires a b lengths) w run.run.happen run.so.sound (all_plain a b lengths steps w run)
    (first_so a b lengths steps w run)
