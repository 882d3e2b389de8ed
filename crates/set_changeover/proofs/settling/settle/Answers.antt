use Rattle.std.proofs.Common.{rules, refl, sym, arith, IfSome, ◌≢◌, ◌≡◌, ◌∙◌, ap, ◌<◌, length, Bool, slice_set}
use Rattle.std.proofs.lemmas.List.{length-map}
use Rattle.set_route.specs.Routing.{Routing, settled as streams_settled}
use Rattle.set_model.specs.Changeover.{settled_link, fate_on, is_told, judged, judged_link}
use Rattle.set_model.specs.State.{target}
use Rattle.set_changeover.specs.Parts.{kept_of}
use Rattle.set_changeover.proofs.States.{is_judged, becomes, settled_for}
use Rattle.set_queues.proofs.Soundness.{IsAside}
use Rattle.set_changeover.proofs.Links.{link_set, place_for, same_target}
use Rattle.set_changeover.proofs.settling.settle.Given.{Over}
use Rattle.set_changeover.proofs.settling.settle.Goals as goal
use Rattle.set_changeover.proofs.settling.settle.Goals.{After-judge}

-- where it goes
to_place : (o : Over) (c : After-judge o) → IsAside c.args.number (fate_on c.target_of-target.result) c.judge.new.parts.queues.lists × IfSome c.target_of-target.result (λ t. t ≢ c.args.number)
to_place o c =
    let many : length c.judge.new.parts.queues.lists.links ≡ length c.args.parts.now.links.items = grind (arith, length-map, c.judge.ensures.opens, c.judge.ensures.whole) in
    place_for c.args.number c.target_of-target.result (fate_on c.target_of-target.result) c.judge.new.parts.queues.lists c.deref.ensures.value c.target_of-target.ensures.value c.target_of-target.ensures.below refl many c.requires.known c.requires.out

pub settle-requires-clause-apart : goal.settle-requires-clause-apart
settle-requires-clause-apart o c = (to_place o (goal.at.settle-requires-clause-apart o c).After-judge).1

pub returns : goal.returns
returns over c = record {
  stands = λ s link there down a.
      let n = c.args.number in
      let o = c.target_of-target.result in
      let one = a.sound.links n link there in
      let j = is_judged n link s there (one.in_order, one.held_last) c.args.reached in
      let mid = judged c.args.reached n link s in
      let link' = judged_link c.args.reached n link s.rows in
      let f = c.judge.ensures.stands s link there a.stands in
      let is : o ≡ target mid.links = c.target_of-target.ensures.value ∙ ap target c.deref.ensures.value ∙ sym (same_target _ _ c.judge.ensures.opens) ∙ ap target f.links in
      let place = to_place over (goal.at.returns over c).After-judge in
      let known : n < length c.judge.new.parts.links.items = grind (arith, length-map, c.judge.ensures.opens, c.requires.known) in
      let set = link_set c.judge.new.parts.links.items n c.from.result c.index_mut-link.result.now c.from.ensures known c.index_mut-link.ensures.value (settled_link c.is_told-link-inside.result) _ mid.links link' c.link.view_is f.links j.1 ∙ ap (λ (told : Bool). slice_set mid.links n (settled_link told link')) c.is_told-link-inside.ensures in
      let routes = c.settle-2.ensures ∙ ap (λ (r : Routing). streams_settled n o r) f.routing in
      rw (← is) (becomes (settled_for (kept_of c.judge.new.parts) mid n o link' (settled_link (is_told c.args.reached) link') (streams_settled n o mid.routing) f j.0.0 j.0.1 j.1 refl refl place.0) (search (rules, c.settle.ensures.lists, c.settle.ensures.messages, set, routes)));
}
