use Rattle.std.proofs.Common.{rules, ◌≡◌, ◌∙◌, ap, sym, List, slice_get, Some}
use Rattle.set_model.specs.State.{LinkState}
use Rattle.set_model.specs.Rows.{NoAnswer, place}
use Rattle.set_changeover.specs.Parts.{kept_of}
use Rattle.set_queues.proofs.Standing.{queued_stands}
use Rattle.set_changeover.proofs.States.{becomes, one_given_up_for}
use Rattle.set_changeover.proofs.Links.{found, stands_for, without_less, on_less}
use Rattle.set_changeover.proofs.settling.take_back.Goals as goal

pub give_up-requires-clause-there : goal.give_up-requires-clause-there
give_up-requires-clause-there o c = rw (ap (λ (l : LinkState). l.order) c.behind-parts.view_is) (c.requires.there c.index.result.now (found c.args.parts.now.links.items c.args.number c.from.result c.index.result.now c.from.ensures c.requires.known c.index.ensures))

pub returns-clause-stands : goal.returns-clause-stands
returns-clause-stands o c = λ s link there f.
    let n = c.args.number in
    let order : c.index.result.now.order ≡ link.order = ap (λ (l : LinkState). l.order)
    (stands_for c.args.parts.now.links.items n c.from.result c.index.result.now c.from.ensures c.requires.known c.index.ensures s.links link f.links there) in
    let at : place link.order s.rows ≡ Some c.args.from = sym (f.stands.fates link.order) ∙ c.requires.there link (ap (λ (ls : List LinkState). slice_get ls n) f.links ∙ there) in
    becomes (one_given_up_for (kept_of c.args.parts.now) s link.order c.args.from NoAnswer f (queued_stands c.args.from c.requires.queued) c.requires.place at) (search (rules, order))

pub returns-clause-fewer : goal.returns-clause-fewer
returns-clause-fewer o c = on_less c.args.number _ _ (without_less c.args.from _ _ _ c.give_up.ensures.lists (queued_stands c.args.from c.requires.queued) c.requires.place)
