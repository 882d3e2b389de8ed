use Rattle.std.proofs.Common.{◌≡◌, ◌∙◌, ap, ℕ, List, [], ◌∷◌, ◌++◌}
use Rattle.bank_crew.specs.Doors.{DoorState}
use Rattle.bank_crew.specs.Managing.{are_marks, look_mark, of_turns}
use Rattle.bank_crew.specs.Seats.{link_in}
use Rattle.bank_crew.proofs.Marking.{marks_looked, turns_looked}
use Rattle.bank_crew.proofs.seat_door.SeatDoor.note_look.Goals as goal

-- src/seat_door.rt
pub invariant_of-self : goal.invariant_of-self
invariant_of-self g c =
    let caller = c.self.inside.caller in
    let link = link_in caller.seat.who in
    let marks = c.self.inside.marks in
    let noted : c.note.new.self ≡ marks ++ look_mark c.args.out c.args.sight.now ∷ [] = c.note.ensures ∙ ap (λ (m : ℕ). marks ++ m ∷ []) c.look_mark.ensures in record {
      answered_is = c.self.invariant.answered_is;
      carried_is = c.self.invariant.carried_is;
      marked = ap (λ (ms : List ℕ). are_marks link ms caller.all) noted ∙ marks_looked link caller.all marks c.args.out c.args.sight.now c.self.invariant.marked;
      full = c.self.invariant.full;
    }

pub invariant_of-self-in-Some : goal.invariant_of-self-in-Some
invariant_of-self-in-Some g c =
    let caller = c.self.inside.caller in
    let link = link_in caller.seat.who in
    let marks = c.self.inside.marks in
    let noted : c.note.new.self ≡ marks ++ look_mark c.args.out c.args.sight.now ∷ [] = c.note.ensures ∙ ap (λ (m : ℕ). marks ++ m ∷ []) c.look_mark.ensures in record {
      answered_is = c.self.invariant.answered_is;
      carried_is = c.self.invariant.carried_is;
      marked = ap (λ (ms : List ℕ). are_marks link ms caller.all) noted ∙ marks_looked link caller.all marks c.args.out c.args.sight.now c.self.invariant.marked;
      full = c.self.invariant.full;
    }

pub invariant_of-self-in-None : goal.invariant_of-self-in-None
invariant_of-self-in-None g c =
    let caller = c.self.inside.caller in
    let link = link_in caller.seat.who in
    let marks = c.self.inside.marks in
    let noted : c.note.new.self ≡ marks ++ look_mark c.args.out c.args.sight.now ∷ [] = c.note.ensures ∙ ap (λ (m : ℕ). marks ++ m ∷ []) c.look_mark.ensures in record {
      answered_is = c.self.invariant.answered_is;
      carried_is = c.self.invariant.carried_is;
      marked = ap (λ (ms : List ℕ). are_marks link ms caller.all) noted ∙ marks_looked link caller.all marks c.args.out c.args.sight.now c.self.invariant.marked;
      full = c.self.invariant.full;
    }

pub returns-then-not-out-clause-made : goal.returns-then-not-out-clause-made
returns-then-not-out-clause-made g c =
    let caller = c.self.inside.caller in
    let marks = c.self.inside.marks in
    let noted : c.note.new.self ≡ marks ++ look_mark c.args.out c.args.sight.now ∷ [] = c.note.ensures ∙ ap (λ (m : ℕ). marks ++ m ∷ []) c.look_mark.ensures in
    ap (λ (ms : List ℕ). of_turns ms caller.all) noted ∙ turns_looked (link_in caller.seat.who) caller.all marks c.args.out c.args.sight.now c.self.invariant.marked
    ∙ ap (λ (d : DoorState). of_turns d.marks d.all) c.self.view_is

pub returns-in-Some-clause-made : goal.returns-in-Some-clause-made
returns-in-Some-clause-made g c =
    let caller = c.self.inside.caller in
    let marks = c.self.inside.marks in
    let noted : c.note.new.self ≡ marks ++ look_mark c.args.out c.args.sight.now ∷ [] = c.note.ensures ∙ ap (λ (m : ℕ). marks ++ m ∷ []) c.look_mark.ensures in
    c.ask_more.ensures.made ∙ ap (λ (ms : List ℕ). of_turns ms caller.all) noted
    ∙ turns_looked (link_in caller.seat.who) caller.all marks c.args.out c.args.sight.now c.self.invariant.marked ∙ ap (λ (d : DoorState). of_turns d.marks d.all) c.self.view_is

pub returns-in-None-clause-made : goal.returns-in-None-clause-made
returns-in-None-clause-made g c =
    let caller = c.self.inside.caller in
    let marks = c.self.inside.marks in
    let noted : c.note.new.self ≡ marks ++ look_mark c.args.out c.args.sight.now ∷ [] = c.note.ensures ∙ ap (λ (m : ℕ). marks ++ m ∷ []) c.look_mark.ensures in
    ap (λ (ms : List ℕ). of_turns ms caller.all) noted ∙ turns_looked (link_in caller.seat.who) caller.all marks c.args.out c.args.sight.now c.self.invariant.marked
    ∙ ap (λ (d : DoorState). of_turns d.marks d.all) c.self.view_is
