-- What sets came to, one after another.
use Rattle.std.proofs.Common.{refl, ◌≡◌, ◌∙◌, ap, sym, subst, map, List, [], ◌∷◌, ◌++◌, append_assoc, append-nil, arith, length, Result, Ok, Err}
use Rattle.std.specs.List.{AllZip}
use Rattle.line_ring.specs.declared.line.Line as line_end
use Rattle.bank_crew.specs.declared.end.SetEnd.{SetEnd}
use Rattle.bank_crew.specs.declared.fault.CrewFault.{CrewFault}
use Rattle.bank_crew.proofs.Doing.{each_more}
use Rattle.std.proofs.lemmas.List.{map-append}
use Rattle.bank_core.specs.declared.running.EndOf.{EndOf}
use Rattle.bank_core.specs.Ends.{AreEndsOver, and_end, outcome}
use Rattle.bank_core.specs.Promises.{Keeps, promised}

-- the first answer is an end, and so are all others
split : (end : SetEnd) (rest : Result (List SetEnd) CrewFault) (ends : List SetEnd) → and_end end rest ≡ Ok ends
    → (more : List SetEnd) × (rest ≡ Ok more) × (ends ≡ end ∷ more)
split end (Ok more) ends is = (more, refl, cc is)
split end (Err fault) ends is = absurd (cc is)

pub all_came : {L H : Type 0} (l : line_end.Ghosts L) (of : H → EndOf L) (hs : List H) (answers : List (Result SetEnd CrewFault)) (ends : List SetEnd) → AllZip (Keeps l) (map of hs) answers → outcome answers ≡ Ok ends → AreEndsOver l (map (λ h. promised (of h)) hs) ends
all_came l of [] [] ends each is = let none : [] ≡ ends = cc is in subst (AreEndsOver l []) none tt
all_came l of [] (answer ∷ answers) ends each is = absurd each
all_came l of (h ∷ hs) [] ends each is = absurd each
all_came l of (h ∷ hs) (Ok end ∷ answers) ends each is =
    let parts = split end (outcome answers) ends is in
    subst (AreEndsOver l (map (λ h. promised (of h)) (h ∷ hs))) (sym parts.2) (each.0, all_came l of hs answers parts.0 each.1 parts.1)
all_came l of (h ∷ hs) (Err fault ∷ answers) ends each is = absurd (cc is)

-- ends that were sorted out, and what is still to be
abbrev pub put_before : List SetEnd → Result (List SetEnd) CrewFault → Result (List SetEnd) CrewFault
put_before ends (Ok more) = Ok (ends ++ more)
put_before ends (Err fault) = Err fault

pub one_out : (ends : List SetEnd) (end : SetEnd) (rest : Result (List SetEnd) CrewFault) → put_before ends (and_end end rest) ≡ put_before (ends ++ end ∷ []) rest
one_out ends end (Ok more) = ap Ok (sym (append_assoc ends (end ∷ []) more))
one_out ends end (Err fault) = refl

-- one thread more was waited for
pub answered : {L H : Type 0} (l : line_end.Ghosts L) (of : H → EndOf L) (hs : List H) (h : H) (answers answers' : List (Result SetEnd CrewFault)) (answer : Result SetEnd CrewFault) → AllZip (Keeps l) (map of hs) answers → Keeps l (of h) answer → answers' ≡ answers ++ answer ∷ []
    → AllZip (Keeps l) (map of (hs ++ h ∷ [])) answers'
answered {L} {H} l of hs h answers answers' answer are is more =
    subst (λ (all : List (Result SetEnd CrewFault)). AllZip (Keeps l) (map of (hs ++ h ∷ [])) all) (sym more)
    (subst (λ (ps : List (EndOf L)). AllZip (Keeps l) ps (answers ++ answer ∷ [])) (sym (map-append of hs (h ∷ []))) (each_more (Keeps l) (map of hs) (of h) answers answer are is))

-- where none is left, these are all
pub none_left_out : (all left : List (Result SetEnd CrewFault)) (ends : List SetEnd) → length left ≡ 0 → outcome all ≡ put_before ends (outcome left) → outcome all ≡ Ok ends
none_left_out all [] ends none is = is ∙ ap Ok (append-nil ends)
none_left_out all (answer ∷ left) ends none is = absurd (omega (arith, none))
