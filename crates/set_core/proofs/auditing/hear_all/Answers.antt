use Rattle.std.proofs.Common.{refl, ap, List, Err, Some, None, subst, take}
use Rattle.std.proofs.lemmas.List.{take_all}
use Rattle.set_core.specs.Hearing.{HasHeard}
use Rattle.set_core.specs.Items.{entered}
use Rattle.set_core.specs.declared.item.Item.TheVariants.{Entered}
use Rattle.set_core.proofs.HeardEntries.{found_nobody, found_right, found_wrong, has_room, heard_all, heard_on, none_here, only_memory, passed_on}
use Rattle.set_events.specs.declared.history.Entry.{Entry}
use Rattle.set_core.proofs.auditing.hear_all.Goals as goal

pub loop-entry-init : goal.loop-entry-init
loop-entry-init o c = c.requires.begun

pub loop-entry-preserved : goal.loop-entry-preserved
loop-entry-preserved o c =
    let base = c.args.base.now in
    let entries = c.args.entries.now in
    let i = c.loop-entry.entry-index in
    let x = c.entry-item.result in
    heard_on base entries i x c.hear_entry.new.self c.loop-entry-test.true c.entry-item.is
    (found_right base (entered (take i entries)) (Entered x) c.in_ok-hear_entry.field-0 c.hear_entry.new.self c.in-Right.is
    (rw (c.of-asked.ensures.value, c.of.ensures.value) at (c.in_ok-hear_entry.ensures.found base (entered (take i entries)) c.loop-entry.invariant)))

pub returns-in-WrongAnswer-clause-legal : goal.returns-in-WrongAnswer-clause-legal
returns-in-WrongAnswer-clause-legal o c =
    let base = c.args.base.now in
    let entries = c.args.entries.now in
    let i = c.loop-entry.entry-index in
    let x = c.entry-item.result in (
      λ no. cc,
      λ legal. absurd (none_here base.state entries i x (Some c.hear_entry.new.self.answer) c.loop-entry-test.true c.entry-item.is
          (found_wrong base (entered (take i entries)) (Entered x) c.in_ok-hear_entry.field-0 c.hear_entry.new.self c.in-WrongAnswer.is
          (rw (c.of-asked.ensures.value, c.of.ensures.value) at (c.in_ok-hear_entry.ensures.found base (entered (take i entries)) c.loop-entry.invariant))) legal),
    )

pub returns-in-NoSuchActor-clause-legal : goal.returns-in-NoSuchActor-clause-legal
returns-in-NoSuchActor-clause-legal o c =
    let base = c.args.base.now in
    let entries = c.args.entries.now in
    let i = c.loop-entry.entry-index in
    let x = c.entry-item.result in (
      λ no. cc,
      λ legal. absurd (none_here base.state entries i x None c.loop-entry-test.true c.entry-item.is
          (found_nobody base (entered (take i entries)) (Entered x) c.in_ok-hear_entry.field-0 c.hear_entry.new.self c.in-NoSuchActor.is
          (rw (c.of-asked.ensures.value, c.of.ensures.value) at (c.in_ok-hear_entry.ensures.found base (entered (take i entries)) c.loop-entry.invariant))) legal),
    )

pub returns-in_err-hear_entry-clause-fault : goal.returns-in_err-hear_entry-clause-fault
returns-in_err-hear_entry-clause-fault o c =
    rw (passed_on c.from_residual.result c.in_err-hear_entry.field-0.0 c.from_residual.ensures.1)
    (only_memory c.in_err-hear_entry.field-0.0 (λ full. has_room c.args.base.now c.args.entries.now c.loop-entry.entry-index c.loop-entry.auditor c.loop-entry-test.true c.requires.few c.loop-entry.invariant
    (c.in_err-hear_entry.ensures.exhausted.0 (ap Err full))))

pub returns-clause-legal : goal.returns-clause-legal
returns-clause-legal o c =
    (λ yes. heard_all c.args.base.now c.args.entries.now c.loop-entry.auditor (subst (λ (es : List Entry). HasHeard c.args.base.now (entered es) c.loop-entry.auditor) (take_all c.loop-entry.entry-index c.args.entries.now c.loop-entry-test.false) c.loop-entry.invariant), λ legal. refl)
