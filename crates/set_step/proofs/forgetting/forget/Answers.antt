use Rattle.std.proofs.Common.{refl}
use Rattle.set_changeover.specs.Parts.{kept_of}
use Rattle.set_step.proofs.Forgotten.{bodies_then, forgets, held_then, many_then}
use Rattle.set_step.proofs.forgetting.forget.Goals as goal

pub let_go-requires-clause-held : goal.let_go-requires-clause-held
let_go-requires-clause-held o c = rw c.in_ok-forget.ensures.messages (held_then (kept_of c.args.parts.now) c.requires)

pub let_go-requires-clause-as_many : goal.let_go-requires-clause-as_many
let_go-requires-clause-as_many o c = rw c.in_ok-forget.ensures.messages (many_then (kept_of c.args.parts.now) c.requires)

pub let_go-requires-clause-lean : goal.let_go-requires-clause-lean
let_go-requires-clause-lean o c = rw (c.in_ok-forget.ensures.messages, bodies_then (kept_of c.args.parts.now)) c.in_ok-lean.ensures

pub returns-clause-ok : goal.returns-clause-ok
returns-clause-ok o c = λ s a.
    forgets (kept_of c.args.parts.now) _ (rw (c.let_go.ensures, c.forget.ensures.lists, c.in_ok-forget.ensures.messages, bodies_then (kept_of c.args.parts.now), c.together-finished.ensures, c.finished.ensures) refl) s a
