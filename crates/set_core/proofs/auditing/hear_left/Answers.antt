use Rattle.std.proofs.Common.{refl, ap, sym, ◌∙◌, List, [], ◌∷◌, ◌++◌, Err, Some, None, subst, append_assoc, append-nil}
use Rattle.set_core.specs.Hearing.{HasHeard}
use Rattle.set_core.specs.Items.{entered}
use Rattle.set_core.specs.declared.item.Item.TheVariants.{Entered}
use Rattle.set_core.proofs.HeardEntries.{found_nobody, found_right, found_wrong, has_room_left, heard_all, heard_more, none_legal, only_memory, passed_on}
use Rattle.set_events.specs.declared.history.Entry.{Entry}
use Rattle.set_model.specs.History.{IsLegal}
use Rattle.set_core.proofs.auditing.hear_left.Goals as goal

pub loop-told-preserved : goal.loop-told-preserved
loop-told-preserved o c =
    let base = c.args.base.now in
    let l = c.loop-told.invariant in
    let x = c.in-Some.told in (
      l.0 ++ x ∷ [],
      l.1 ∙ ap (λ (left : List Entry). l.0 ++ left) c.in-Some.ensures ∙ sym (append_assoc l.0 (x ∷ []) c.next.new.self),
      heard_more base l.0 x c.hear_entry.new.self
          (found_right base (entered l.0) (Entered x) c.in_ok-hear_entry.field-0 c.hear_entry.new.self c.in-Right.is
          (rw (c.who.ensures, c.asked.ensures.value, c.answered.ensures.value) at (c.in_ok-hear_entry.ensures.found base (entered l.0) l.2))),
    )

pub returns-in-WrongAnswer-clause-legal : goal.returns-in-WrongAnswer-clause-legal
returns-in-WrongAnswer-clause-legal o c =
    let base = c.args.base.now in
    let l = c.loop-told.invariant in
    let x = c.in-Some.told in (
      λ no. cc,
      λ legal. absurd (none_legal base.state l.0 c.next.new.self x (Some c.hear_entry.new.self.answer)
          (found_wrong base (entered l.0) (Entered x) c.in_ok-hear_entry.field-0 c.hear_entry.new.self c.in-WrongAnswer.is
          (rw (c.who.ensures, c.asked.ensures.value, c.answered.ensures.value) at (c.in_ok-hear_entry.ensures.found base (entered l.0) l.2)))
          (subst (λ (es : List Entry). IsLegal base.state es) (l.1 ∙ ap (λ (left : List Entry). l.0 ++ left) c.in-Some.ensures) legal)),
    )

pub returns-in-NoSuchActor-clause-legal : goal.returns-in-NoSuchActor-clause-legal
returns-in-NoSuchActor-clause-legal o c =
    let base = c.args.base.now in
    let l = c.loop-told.invariant in
    let x = c.in-Some.told in (
      λ no. cc,
      λ legal. absurd (none_legal base.state l.0 c.next.new.self x None
          (found_nobody base (entered l.0) (Entered x) c.in_ok-hear_entry.field-0 c.hear_entry.new.self c.in-NoSuchActor.is
          (rw (c.who.ensures, c.asked.ensures.value, c.answered.ensures.value) at (c.in_ok-hear_entry.ensures.found base (entered l.0) l.2)))
          (subst (λ (es : List Entry). IsLegal base.state es) (l.1 ∙ ap (λ (left : List Entry). l.0 ++ left) c.in-Some.ensures) legal)),
    )

pub returns-in_err-hear_entry-clause-fault : goal.returns-in_err-hear_entry-clause-fault
returns-in_err-hear_entry-clause-fault o c =
    let l = c.loop-told.invariant in
    rw (passed_on c.from_residual.result c.in_err-hear_entry.field-0.0 c.from_residual.ensures.1)
    (only_memory c.in_err-hear_entry.field-0.0 (λ full. has_room_left c.args.base.now c.args.entries l.0 c.next.new.self c.in-Some.told c.loop-told.auditor (l.1 ∙ ap (λ (left : List Entry). l.0 ++ left) c.in-Some.ensures) c.requires.few l.2
    (c.in_err-hear_entry.ensures.exhausted.0 (ap Err full))))

pub returns-clause-legal : goal.returns-clause-legal
returns-clause-legal o c =
    let base = c.args.base.now in
    let l = c.loop-told.invariant in
    let all = l.1 ∙ ap (λ (left : List Entry). l.0 ++ left) c.in_default.ensures ∙ append-nil l.0 in
    (λ yes. heard_all base c.args.entries c.loop-told.auditor (subst (λ (es : List Entry). HasHeard base (entered es) c.loop-told.auditor) (sym all) l.2), λ legal. refl)
