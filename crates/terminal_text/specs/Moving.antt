-- WHERE THE STREAMS OF THE SET RUN (Q.704 5.3, 6), which is told where it changes.
use Rattle.std.specs.Prelude.{ℕ, zero, suc, ◌==◌, ◌+◌, Bool, false, List, [], ◌∷◌, ◌++◌, Option, Some, None, slice_get, codes, decimal, if◌then◌else◌}
use Rattle.set_model.specs.State.{State}
use Rattle.set_route.specs.Routing.{place_of}
use Rattle.set_route.specs.declared.place.Place.{Place}
use Rattle.set_route.specs.declared.place.Place.TheVariants.{On, Changing, Nowhere}

-- on this link, on its way back to this one, or nowhere. Two places are told alike where these numbers are the same.
abbrev pub place_words : Place → List ℕ
place_words (On link) = codes "link " ++ decimal link
place_words (Changing to code via) = codes "back " ++ decimal to
place_words Nowhere = codes "nowhere"

abbrev pub place_number : Place → ℕ
place_number (On link) = link
place_number (Changing to code via) = 256 + to
place_number Nowhere = 512

-- where the streams below this number run, and where all run
abbrev pub places_to : ℕ → State → List ℕ
places_to zero s = []
places_to (suc n) s = places_to n s ++ place_number (place_of n s.routing) ∷ []

abbrev pub places : State → List ℕ
places s = places_to 16 s

-- THE LINES of those that run elsewhere than these numbers tell, in their order
abbrev pub is_place : Option ℕ → Place → Bool
is_place None place = false
is_place (Some was) place = was == place_number place

abbrev pub move_line : ℕ → ℕ → Place → List ℕ
move_line turn stream place =
    codes "stream " ++ (decimal stream ++ (codes " " ++ (place_words place ++ (codes " turn=" ++ (decimal turn ++ codes "\n")))))

abbrev pub move_of : ℕ → Option ℕ → ℕ → Place → List ℕ
move_of turn was stream place = if is_place was place then [] else move_line turn stream place

abbrev pub moves_to : ℕ → List ℕ → ℕ → State → List ℕ
moves_to turn was zero s = []
moves_to turn was (suc n) s = moves_to turn was n s ++ move_of turn (slice_get was n) n (place_of n s.routing)

abbrev pub moves : ℕ → List ℕ → State → List ℕ
moves turn was s = moves_to turn was 16 s

-- WHAT IS TOLD, where streams are told and these numbers were told last; and what was told last then
abbrev pub moved : ℕ → Option (List ℕ) → State → List ℕ
moved turn None s = []
moved turn (Some was) s = moves turn was s

abbrev pub told_again : Option (List ℕ) → State → Option (List ℕ)
told_again None s = None
told_again (Some was) s = Some (places s)
