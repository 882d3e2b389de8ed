use Rattle.std.proofs.Common.{rules, refl, arith, ◌≡◌, ◌∙◌, ap, sym, subst, slice_set, length}
use Rattle.std.proofs.lemmas.Bool.{le-leb, lt-leb}
use Rattle.set_queues.specs.Buffers.{queue_at}
use Rattle.set_queues.specs.Sending.{reach}
use Rattle.set_model.specs.Changeover.{acknowledged}
use Rattle.set_changeover.specs.Agreement.{StandsFor}
use Rattle.set_model.specs.Rows.{Unacked, Emergency, NoAnswer}
use Rattle.set_changeover.specs.Parts.{kept_of}
use Rattle.set_changeover.proofs.States.{becomes, reaches, acked_for, given_up_for}
use Rattle.set_changeover.proofs.Links.{link_set, cleared_less, on_less}
use Rattle.set_changeover.proofs.settling.judge.Goals as goal

pub returns-in-Ok-clause-stands : goal.returns-in-Ok-clause-stands
returns-in-Ok-clause-stands o c = λ s link there f.
    let r = reaches (kept_of c.args.parts.now) s c.args.number c.in-Upto.fsn link f there in
    rw (c.in-Upto.is, ← r.1, le-leb _ _ c.in-Ok.ensures.acked.0, ← r.0)
    (let count : c.from.result ≡ reach c.args.number c.in-Upto.fsn c.args.parts.now.queues.lists = c.from.ensures ∙ c.in-Ok.ensures.acked.1 in
    let set = link_set c.args.parts.now.links.items c.args.number c.from-in-Ok.result c.index_mut.result.now c.from-in-Ok.ensures c.requires.known c.index_mut.ensures.value (acknowledged c.from.result) _ s.links link c.behind-parts.view_is f.links there ∙ ap (λ n. slice_set s.links c.args.number (acknowledged n link)) count in
    becomes (acked_for (kept_of c.args.parts.now) s c.args.number c.in-Upto.fsn link _ f there (rw c.in-Upto.is at c.requires.reached) refl refl) (search (rules, c.in-Ok.ensures.moves.lists, c.in-Ok.ensures.moves.messages, set)))

pub returns-in-Err-clause-stands : goal.returns-in-Err-clause-stands
returns-in-Err-clause-stands o c = λ s link there f.
    rw (c.in-Upto.is, ← (reaches (kept_of c.args.parts.now) s c.args.number c.in-Upto.fsn link f there).1, lt-leb (reach c.args.number c.in-Upto.fsn c.args.parts.now.queues.lists) (length (queue_at (Unacked c.args.number) c.args.parts.now.queues.lists)) (omega (arith, c.in-Err.ensures.acked)))
    (c.discard.ensures.stands s (subst (λ q. StandsFor (record (kept_of c.args.parts.now) { lists = q.lists; messages = q.messages }) s) (sym c.in-Err.ensures.err) f))

pub returns-in-Unknown-clause-stands : goal.returns-in-Unknown-clause-stands
returns-in-Unknown-clause-stands o c = λ s link there f. rw c.in-Unknown.is (becomes (given_up_for (kept_of c.args.parts.now) s (Unacked c.args.number) Emergency f refl (omega arith)) (search rules))

pub returns-in-Unknown-clause-fewer : goal.returns-in-Unknown-clause-fewer
returns-in-Unknown-clause-fewer o c = search (rules, cleared_less, on_less)

pub returns-in-Unasked-clause-stands : goal.returns-in-Unasked-clause-stands
returns-in-Unasked-clause-stands o c = λ s link there f. rw c.in-Unasked.is (becomes (given_up_for (kept_of c.args.parts.now) s (Unacked c.args.number) NoAnswer f refl (omega arith)) (search rules))

pub returns-in-Unasked-clause-fewer : goal.returns-in-Unasked-clause-fewer
returns-in-Unasked-clause-fewer o c = search (rules, cleared_less, on_less)
