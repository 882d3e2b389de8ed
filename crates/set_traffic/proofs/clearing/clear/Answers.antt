use Rattle.std.proofs.Common.{rules, sym, ◌∙◌}
use Rattle.set_model.specs.Rows.{NoAnswer}
use Rattle.set_model.specs.Changeover.{cleared}
use Rattle.set_model.specs.State.{State}
use Rattle.set_model.proofs.Walk.{IsAt}
use Rattle.set_changeover.specs.Agreement.{StandsFor}
use Rattle.set_changeover.specs.Parts.{Up, kept_of}
use Rattle.set_changeover.proofs.States.{becomes, withdrawn_for}
use Rattle.set_traffic.proofs.Overtaken.{clears_first, cleared_all, some_waits, one_less, links_left, cleared_sound}
use Rattle.set_traffic.proofs.clearing.clear.Goals as goal

pub withdraw-requires-clause-some : goal.withdraw-requires-clause-some
withdraw-requires-clause-some o c =
    let now = c.loop-parts.invariant.clears c.requires.holds.0 c.requires.holds.1.stands in
    some_waits c.args.number now.now (kept_of c.loop-parts.parts) now.stands (sym (c.is_first_overtaken.ensures now.now now.stands) ∙ c.loop-parts-test.true)

pub loop-parts-smaller : goal.loop-parts-smaller
loop-parts-smaller o c =
    let now = c.loop-parts.invariant.clears c.requires.holds.0 c.requires.holds.1.stands in
    let some = some_waits c.args.number now.now (kept_of c.loop-parts.parts) now.stands (sym (c.is_first_overtaken.ensures now.now now.stands) ∙ c.loop-parts-test.true) in
    one_less c.args.number c.loop-parts.parts.queues.lists c.withdraw.new.self.lists c.loop-parts.invariant.queue c.withdraw.ensures.lists some

pub loop-parts-preserved : goal.loop-parts-preserved
loop-parts-preserved o c =
    let n = c.args.number in
    let inv = c.loop-parts.invariant in
    record {
      links = inv.links;
      queue = rw (links_left n c.loop-parts.parts.queues.lists c.withdraw.new.self.lists c.withdraw.ensures.lists) inv.queue;
      clears = λ s f.
          let now = inv.clears s f in
          clears_first n s (kept_of c.loop-parts.parts) _ now (sym (c.is_first_overtaken.ensures now.now now.stands) ∙ c.loop-parts-test.true)
          (becomes (withdrawn_for (kept_of c.loop-parts.parts) now.now n NoAnswer now.stands inv.queue) (search (rules, c.withdraw.ensures.lists, c.withdraw.ensures.messages)));
    }

pub returns : goal.returns
returns o c =
    let n = c.args.number in
    let stands = λ (s : State) (f : StandsFor (kept_of c.args.parts.now) s).
    let now = c.loop-parts.invariant.clears s f in
    cleared_all n s (kept_of c.loop-parts.parts) now (sym (c.is_first_overtaken.ensures now.now now.stands) ∙ c.loop-parts-test.false) in
    let s = c.requires.holds.0 in
    let a = c.requires.holds.1 in
    let h = c.requires.here in
    let at : IsAt n h.link Up s = record { there = rw (← a.stands.links) h.there; phase_is = h.phase_is } in
    record {
      stands = stands;
      holds = (cleared n s, record { stands = stands s a.stands; sound = cleared_sound n h.link s at a.sound });
      links = c.loop-parts.invariant.links;
      queue = c.loop-parts.invariant.queue;
    }
