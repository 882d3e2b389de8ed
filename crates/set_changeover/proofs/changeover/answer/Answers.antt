use Rattle.std.proofs.Common.{rules, refl, sym, arith, ◌≡◌, ◌∙◌, Some}
use Rattle.set_changeover.specs.Parts.{Down}
use Rattle.set_changeover.proofs.Links.{here_room, is_in, not_left, out_at, reach_here}
use Rattle.set_changeover.proofs.changeover.answer.Goals as goal

pub settle-requires-clause-room : goal.settle-requires-clause-room
settle-requires-clause-room o c =
    let e : c.phase_of.result ≡ Some Down = search rules in
    let h = rw e at c.phase_of.ensures.here in
    here_room c.args.parts.now c.args.number 1 Down h refl (c.requires.room h.known)

pub settle-requires-clause-out : goal.settle-requires-clause-out
settle-requires-clause-out o c =
    let e : c.phase_of.result ≡ Some Down = search rules in
    let h = rw e at c.phase_of.ensures.here in
    out_at c.args.parts.now.links.items c.args.number Down h refl

pub settle-requires-clause-reached : goal.settle-requires-clause-reached
settle-requires-clause-reached o c =
    let e : c.phase_of.result ≡ Some Down = search rules in
    let h = rw e at c.phase_of.ensures.here in
    reach_here c.args.parts.now c.args.number c.args.reached c.requires.holds h.known c.requires.reached

pub returns-then-ne : goal.returns-then-ne
returns-then-ne o c = record { stands = λ s a. not_left c.args.parts.now s c.args.number c.args.reached a (λ e. let same : c.phase_of.result ≡ Some Down = c.phase_of.ensures.value ∙ sym e in grind (arith, c.ne.ensures, c.if-ne.true)) }

pub returns : goal.returns
returns o c =
    let e : c.phase_of.result ≡ Some Down = search rules in
    let h = rw e at c.phase_of.ensures.here in
    record {
      stands = λ s a.
          let at = is_in c.args.parts.now s c.args.number Down a h in
          rw (at.there, at.phase_is) (record { took_is = refl; stands = c.settle.ensures.stands s at.link at.there at.phase_is a });
    }
