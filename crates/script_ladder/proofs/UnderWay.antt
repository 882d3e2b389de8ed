-- The marks of a line's units, one more.
use Rattle.std.proofs.Common.{refl, arith, ◌≡◌, ℕ, zero, suc, ◌+◌, List, [], ◌∷◌, ◌++◌, take, slice_get}
use Rattle.std.proofs.lemmas.List.{append-nil, append_assoc, take_all}
use Rattle.std.specs.Option.{option_map_or}
use Rattle.l2_units.specs.declared.unit.Unit.{Unit as SignalUnit}
use Rattle.script_ladder.specs.Ladder.{mark, marks}

pub marks_next : (link : ℕ) (way : List ℕ) (units : List SignalUnit) (i : ℕ) → marks link way (take (i + 1) units) ≡ marks link way (take i units) ++ option_map_or (mark link way) (slice_get units i) []
marks_next link way [] i =
    let all = take_all {A = SignalUnit} i [] (omega arith) in
    let more = take_all {A = SignalUnit} (i + 1) [] (omega arith) in
    rw (all, more) refl
marks_next link way (unit ∷ units) zero = append-nil (mark link way unit)
marks_next link way (unit ∷ units) (suc i) =
    let next = marks_next link way units i in
    grind (arith, next, append_assoc)
