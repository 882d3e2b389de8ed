-- THE LINES to an end: of each link, the units under way, oldest first.
use Rattle.std.specs.Prelude.{◌≡◌, ◌≤◌, ℕ, suc, List, [], ◌∷◌, ◌++◌, length, take, drop, replicate, slice_get, slice_set, Option, Some, None}
use Rattle.l2_units.specs.declared.unit.Unit.{Unit as SignalUnit}

-- the lines of so many links, with nothing under way
abbrev pub no_units : ℕ → List (List SignalUnit)
no_units links = replicate links []

-- the units under way on a link
abbrev pub units_of : Option (List SignalUnit) → List SignalUnit
units_of None = []
units_of (Some units) = units

abbrev pub units_on : ℕ → List (List SignalUnit) → List SignalUnit
units_on link lines = units_of (slice_get lines link)

-- they change, and those of no other link do
abbrev pub with_units : ℕ → List SignalUnit → List (List SignalUnit) → List (List SignalUnit)
with_units link units lines = slice_set lines link units

-- a unit joins the line of a link
abbrev pub joined_on : ℕ → SignalUnit → List (List SignalUnit) → List (List SignalUnit)
joined_on link unit lines = with_units link (units_on link lines ++ unit ∷ []) lines

-- all units but that at a place
abbrev pub without : ℕ → List SignalUnit → List SignalUnit
without place units = take place units ++ drop (suc place) units

-- a unit at a place was taken out of a line, or there is none and nothing changed
abbrev pub IsTakenFrom : Option SignalUnit → List SignalUnit → ℕ → List SignalUnit → Type 0
IsTakenFrom None old place new = (length old ≤ place) × (new ≡ old)
IsTakenFrom (Some unit) old place new = (slice_get old place ≡ Some unit) × (new ≡ without place old)

-- the same on a link
abbrev pub IsTakenOut : Option SignalUnit → ℕ → ℕ → List (List SignalUnit) → List (List SignalUnit) → Type 0
IsTakenOut None link place old new = (length (units_on link old) ≤ place) × (new ≡ old)
IsTakenOut (Some unit) link place old new =
    (slice_get (units_on link old) place ≡ Some unit)
    × (new ≡ with_units link (without place (units_on link old)) old)
