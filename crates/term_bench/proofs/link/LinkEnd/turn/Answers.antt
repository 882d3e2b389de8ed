use Rattle.std.proofs.Common.{refl, subst, ap, ◌≡◌, ◌++◌, List}
use Rattle.link_term.specs.declared.fault.TermFault.TheVariants.{Failed}
use Rattle.set_events.specs.declared.history.Entry.{Entry}
use Rattle.term_bench.specs.Ends.{AtLink, at_link}
use Rattle.term_bench.specs.Going.{stands_still}
use Rattle.term_bench.specs.Turns.{BreaksOff, TakesTurn}
use Rattle.term_bench.specs.declared.door.SetDoor.{SetDoor}
use Rattle.term_bench.specs.declared.turn.Turn.{Turn}
use Rattle.term_bench.proofs.LinkLemmas.{breaks_off, takes_turn}
use Rattle.term_bench.proofs.link.LinkEnd.turn.Goals as goal

pub returns-in-Ok-clause-turns : goal.returns-in-Ok-clause-turns
returns-in-Ok-clause-turns g c =
    let took = c.in-Ok.ensures.takes in
    let one = c.counted-self-inside.ensures in
    let turn : Turn = record {
      number = c.counted-self-inside.result.turns;
      put = c.in-Ok.put;
      messages = c.heard.result;
      sent = c.units_in.result;
      before = c.word_of-before.result;
      after = c.word_of.result;
      cause = c.cause.result;
    } in
    let now : AtLink = at_link c.take_octet.new.works c.self.inside.bits c.self.inside.waiting c.counted-self-inside.result in (
      took.1,
      subst (λ (at : AtLink). TakesTurn c.args.door.now.link c.args.octet c.args.door.now.set at turn took.1 c.take_octet.new.door.set now) c.self.view_is
          (takes_turn c.args.door.now.link c.args.octet c.args.door.now.set c.take_octet.new.door.set c.take_octet.new.door.heard
          c.self.inside.works c.take_octet.new.works c.self.inside.bits c.self.inside.waiting c.self.inside.counts
          c.counted-self-inside.result c.in-Ok.turned took.1 turn took.2 took.0 c.in-Ok.ensures.goes_on
          (record { turns = one.turns; sent = one.sent; good = one.good; bad = one.bad; sixteen = one.sixteen })
          c.heard.ensures c.units_in.ensures.value c.word_of-before.ensures c.word_of.ensures refl c.cause.ensures),
      took.3,
    )

pub returns-then-self-ge-MOST_TURNS-clause-same : goal.returns-then-self-ge-MOST_TURNS-clause-same
returns-then-self-ge-MOST_TURNS-clause-same g c =
    let door = c.args.door.now in stands_still door.link door.set door.heard door.faults door.late

pub returns-in-Err-clause-breaks : goal.returns-in-Err-clause-breaks
returns-in-Err-clause-breaks g c =
    let was = c.args.door.now.set in
    let set = c.take_octet.new.door.set in
    let now : AtLink = at_link c.take_octet.new.works c.self.inside.bits c.self.inside.waiting c.self.inside.counts in
    subst (λ (at : AtLink). (entries : List Entry) × (set.history ≡ was.history ++ entries) × BreaksOff c.args.octet c.in-Err.fault was set at now entries)
    c.self.view_is
    (breaks_off c.args.octet c.in-Err.fault c.self.inside.works c.take_octet.new.works c.self.inside.bits c.self.inside.waiting
    c.self.inside.counts was set c.self.inside.works.failed refl
    (λ failed. let nothing = c.in-Err.ensures.failed failed in (
      (let told = nothing.0 in let same : c.in-Err.fault ≡ Failed = cc told in same),
      nothing.1,
      ap (λ (door : SetDoor). door.set.history) nothing.2,
    ))
    c.in-Err.ensures.breaks c.in-Err.ensures.fails)
