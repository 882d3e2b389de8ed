use Rattle.std.proofs.Common.{arith, ap, sym, ◌≡◌, ◌∙◌, ◌<◌, ℕ, length, Option, Some}
use Rattle.std.proofs.lemmas.Bool.Decides.{nat_tests}
use Rattle.set_queues.specs.Buffers.{Held, Waiting}
use Rattle.set_route.specs.Routing.{Routing, code_of, owed_under}
use Rattle.set_model.specs.Changeover.{overdue_via}
use Rattle.set_model.proofs.Lists.{within}
use Rattle.set_model.proofs.SoundBack.{overdue_open}
use Rattle.set_model.specs.State.{State}
use Rattle.set_changeover.specs.Agreement.{Holds, StandsFor}
use Rattle.set_changeover.specs.Parts.{Parts, kept_of}
use Rattle.set_changeover.proofs.changeback.declare_again.Goals as goal

-- the link from which the streams of an overdue code come is one of the set's
known_via : {A : Type 0} (parts : Parts A) (code via : ℕ) (o : Option ℕ) → Holds (kept_of parts)
    → ((s : State) → StandsFor (kept_of parts) s → o ≡ overdue_via (code_of code s.routing) s.rows) → o ≡ Some via
    → via < length parts.links.items
known_via parts code via o holds read is =
    let s = holds.0 in
    let a = holds.1 in
    let due : overdue_via (code_of code s.routing) s.rows ≡ Some via = sym (read s a.stands) ∙ is in
    let there = (a.sound.codes code).via_stands via (overdue_open (code_of code s.routing) s.rows via due) in
    rw a.stands.links (within s.links via there.0 there.1)

pub fate_where-fate-requires-clause-there : goal.fate_where-fate-requires-clause-there
fate_where-fate-requires-clause-there o c = known_via c.args.parts.now c.args.code c.in-Some.via c.overdue.result c.requires.holds c.overdue.ensures c.in-Some.is

pub stand_last-requires-clause-room : goal.stand_last-requires-clause-room
stand_last-requires-clause-room o c =
    let s = c.requires.holds.0 in
    let a = c.requires.holds.1 in
    let fate = c.fate_where-fate.ensures.value s a.stands in
    let each = c.requires.room.each c.in-Some.via (known_via c.args.parts.now c.args.code c.in-Some.via c.overdue.result c.requires.holds c.overdue.ensures c.in-Some.is) in
    record {
      message = omega (arith, c.requires.room.message);
      body = c.requires.room.body;
      place = grind (arith, fate, each);
    }

pub ask_again-requires : goal.ask_again-requires
ask_again-requires o c =
    let s = c.requires.holds.0 in
    let a = c.requires.holds.1 in
    let few = (a.sound.codes c.args.code).few in
    let same : owed_under (code_of c.args.code c.stand_last.new.parts.routes) ≡ owed_under (code_of c.args.code s.routing) =
    ap (λ (r : Routing). owed_under (code_of c.args.code r)) (c.stand_last.ensures.routes ∙ a.stands.routing) in
    omega (arith, few, same, a.stands.given_out, c.len-number.ensures)

pub returns-clause-stands : goal.returns-clause-stands
returns-clause-stands o c = λ s f.
    let due : overdue_via (code_of c.args.code s.routing) s.rows ≡ Some c.in-Some.via = sym (c.overdue.ensures s f) ∙ c.in-Some.is in
    let after = c.stand_last.ensures.stands s f in
    rw due (grind (arith, after, f.settings, f.routing, f.given_out, c.fate_where-fate.ensures.value s f, c.home_of_code.ensures.value, c.body_of-body.ensures, c.as_slice.ensures, c.stand_last.ensures.routes, c.len-number.ensures, c.ask_again.ensures))

pub returns-clause-room : goal.returns-clause-room
returns-clause-room o c = λ more r. record {
  message = omega (arith, r.message, c.stand_last.ensures.message);
  body = c.stand_last.ensures.body more r.body;
  each = λ link low. let room = r.each link in grind (arith, nat_tests, room, c.stand_last.ensures.rooms (Waiting link), c.stand_last.ensures.rooms (Held link), c.stand_last.ensures.links);
}
