use Rattle.std.proofs.Common.{refl, rules, arith, ◌+◌, ◌∙◌, ◌≡◌, ap, sym, length, None, Some, List, ℕ, slice_get}
use Rattle.set_queues.proofs.Standing.{links_stay}
use Rattle.set_changeover.specs.Parts.{kept_of}
use Rattle.set_changeover.proofs.Turns.{turns_one, room_for_one, its_way, goes_on_link, fewer_back, turned_first, starts, all_turned, way}
use Rattle.set_changeover.proofs.turning.turn_back.Goals as goal

pub loop-code-init : goal.loop-code-init
loop-code-init o c = record { whole = c.requires.whole; links = refl; bodies = refl; so_far = λ s. starts c.args.number s _; turned = 0; turns = grind arith; fewer = omega arith }

pub way_of-to-requires-clause-way : goal.way_of-to-requires-clause-way
way_of-to-requires-clause-way o c = its_way c.args.number c.args.parts.now c.loop-code.parts c.loop-code.invariant c.in-Some.code c.in-Some.ensures c.requires.turning

pub turn_back-requires : goal.turn_back-requires
turn_back-requires o c =
    let inv = c.loop-code.invariant in
    let on = goes_on_link c.args.number c.args.parts.now c.loop-code.parts inv c.in-Some.code c.in-Some.ensures c.requires.turning c.way_of-to.result c.way_of-to.ensures in
    let low = on.1 in
    let room = room_for_one c.args.number c.args.parts.now c.loop-code.parts inv c.in-Some.code c.in-Some.ensures c.requires.room on.0 (rw (← inv.whole.as_many) low) in
    record { some = λ e. let no : None ≡ Some c.in-Some.ensures.number = sym (ap (λ (ns : List ℕ). slice_get ns 0) e) ∙ c.in-Some.ensures.first in absurd cc; other = grind arith; queued = grind arith; apart = grind arith; room = grind arith }

pub loop-code-preserved : goal.loop-code-preserved
loop-code-preserved o c =
    let inv = c.loop-code.invariant in
    let on = goes_on_link c.args.number c.args.parts.now c.loop-code.parts inv c.in-Some.code c.in-Some.ensures c.requires.turning c.way_of-to.result c.way_of-to.ensures in
    let many : length c.turn_back.new.self.lists.links ≡ length c.loop-code.parts.queues.lists.links = rw c.turn_back.ensures.lists (search links_stay) in
    record {
      whole = grind arith;
      links = inv.links;
      bodies = inv.bodies;
      so_far = λ s f t.
          let mid = inv.so_far s f t in
          turned_first c.args.number s (kept_of c.loop-code.parts) mid c.in-Some.code c.in-Some.ensures c.way_of-to.result _ on (c.way_of-to.ensures (way c.args.number s (kept_of c.loop-code.parts) mid c.in-Some.code c.in-Some.ensures) _ mid.stands) (search rules);
      turned = inv.turned + 1;
      turns =
          let many = inv.whole.as_many ∙ ap (λ links. length links.items) inv.links ∙ sym c.requires.whole.as_many in
          grind (arith, inv.turns, turns_one c.args.number c.in-Some.code c.way_of-to.result c.loop-code.parts.queues c.turn_back.new.self c.in-Some.ensures on c.turn_back.ensures.lists c.turn_back.ensures.rooms c.turn_back.ensures.room);
      fewer = let less = fewer_back c.args.number c.in-Some.code c.way_of-to.result c.loop-code.parts.queues.lists c.in-Some.ensures on in rw c.turn_back.ensures.lists (omega (arith, inv.fewer, less));
    }

pub loop-code-smaller : goal.loop-code-smaller
loop-code-smaller o c =
    let inv = c.loop-code.invariant in
    let on = goes_on_link c.args.number c.args.parts.now c.loop-code.parts inv c.in-Some.code c.in-Some.ensures c.requires.turning c.way_of-to.result c.way_of-to.ensures in
    let less = fewer_back c.args.number c.in-Some.code c.way_of-to.result c.loop-code.parts.queues.lists c.in-Some.ensures on in
    rw c.turn_back.ensures.lists (omega (arith, less))

pub returns-clause-stands : goal.returns-clause-stands
returns-clause-stands o c = λ s f t. all_turned c.args.number s (kept_of c.loop-code.parts) (c.loop-code.invariant.so_far s f t) c.in_default.ensures
