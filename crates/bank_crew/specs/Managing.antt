-- WHAT LEVEL 3 ASKS of a set beside the turns of a link's terminal (Q.704 5.7, 6.4), among the entries of its seat.
use Rattle.std.specs.Prelude.{◌==◌, ◌&&◌, ◌+◌, ℕ, zero, suc, Bool, not, true, false, List, [], ◌∷◌, if◌then◌else◌}
use Rattle.set_events.specs.declared.event.Event.{Event}
use Rattle.set_events.specs.declared.event.Event.TheVariants.{BackTimeout, Down, NoAnswer, Restore}
use Rattle.set_events.specs.declared.history.Entry.{Entry}
use Rattle.bank_crew.specs.declared.manager.Sight.{Sight}

abbrev pub is_question : ℕ → Event → Bool
is_question link (Restore l) = l == link
is_question link (NoAnswer l) = l == link
is_question link (BackTimeout l) = l == link
is_question link (Down l) = l == link
is_question link event = false

-- A MARK tells who asked: 0 level 3, 1 a turn of the terminal, 2 one by which a changeover order about the link had come late
-- since the terminal looked last. Those from 3 on are of no entry, but of a look before a slice of turns.
abbrev pub turns_mark : Bool → ℕ
turns_mark late = if late then 2 else 1

abbrev pub mark_of : Bool → Bool → ℕ
mark_of of_turn late = if of_turn then turns_mark late else 0

-- each entry has its mark
abbrev pub are_marks : ℕ → List ℕ → List Entry → Bool
are_marks link [] [] = true
are_marks link [] (entry ∷ entries) = false
are_marks link (zero ∷ marks) [] = false
are_marks link (zero ∷ marks) (entry ∷ entries) = is_question link entry.event && are_marks link marks entries
are_marks link (suc zero ∷ marks) [] = false
are_marks link (suc zero ∷ marks) (entry ∷ entries) = are_marks link marks entries
are_marks link (suc (suc zero) ∷ marks) [] = false
are_marks link (suc (suc zero) ∷ marks) (entry ∷ entries) = are_marks link marks entries
are_marks link (suc (suc (suc mark)) ∷ marks) entries = are_marks link marks entries

-- A LOOK, by its mark: whether the terminal was out of service, and what it saw then
abbrev pub look_mark : Bool → Sight → ℕ
look_mark out sight = 3 + ((if out then 4 else 0) + ((if sight.settled then 2 else 0) + (if sight.late then 1 else 0)))

abbrev pub saw_late : ℕ → Bool
saw_late zero = false
saw_late (suc zero) = true
saw_late (suc (suc rest)) = saw_late rest

abbrev pub saw_settled : ℕ → Bool
saw_settled zero = false
saw_settled (suc zero) = false
saw_settled (suc (suc zero)) = true
saw_settled (suc (suc (suc zero))) = true
saw_settled (suc (suc (suc (suc rest)))) = saw_settled rest

abbrev pub was_out : ℕ → Bool
was_out (suc (suc (suc (suc rest)))) = true
was_out rest = false

-- ALL LOOKS of a terminal, and how many entries its turns had made at each
pub record Look : Type 0 where
  pub made : ℕ
  pub out : Bool
  pub settled : Bool
  pub late : Bool

abbrev pub look_by : ℕ → ℕ → Look
look_by made mark = record { made = made; out = was_out mark; settled = saw_settled mark; late = saw_late mark }

abbrev pub looks_from : ℕ → List ℕ → List Look
looks_from made [] = []
looks_from made (zero ∷ marks) = looks_from made marks
looks_from made (suc zero ∷ marks) = looks_from (suc made) marks
looks_from made (suc (suc zero) ∷ marks) = looks_from (suc made) marks
looks_from made (suc (suc (suc look)) ∷ marks) = look_by made look ∷ looks_from made marks

abbrev pub looks_in : List ℕ → List Look
looks_in marks = looks_from 0 marks

-- A TERMINAL RESTS behind a look where it's out of service and its set hasn't settled the link
abbrev pub rests_by : ℕ → Bool
rests_by look = was_out look && not (saw_settled look)

-- THE ENTRIES OF TURNS
abbrev pub of_turns : List ℕ → List Entry → List Entry
of_turns [] entries = []
of_turns (zero ∷ marks) [] = []
of_turns (zero ∷ marks) (entry ∷ entries) = of_turns marks entries
of_turns (suc zero ∷ marks) [] = []
of_turns (suc zero ∷ marks) (entry ∷ entries) = entry ∷ of_turns marks entries
of_turns (suc (suc zero) ∷ marks) [] = []
of_turns (suc (suc zero) ∷ marks) (entry ∷ entries) = entry ∷ of_turns marks entries
of_turns (suc (suc (suc mark)) ∷ marks) entries = of_turns marks entries
