-- The line of a link among the lines of all.
use Rattle.std.proofs.Common.{refl, ◌≡◌, ◌∙◌, ap, ◌<◌, ℕ, zero, suc, List, [], ◌∷◌, length, Option, Some, None, slice_set, get_or, arith}
use Rattle.l2_units.specs.declared.unit.Unit.{Unit as SignalUnit}
use Rattle.pair_steps.specs.Lines.{units_on, IsTakenFrom, IsTakenOut}

-- to put back what was there changes nothing
put_back : (lines : List (List SignalUnit)) (link : ℕ) → slice_set lines link (units_on link lines) ≡ lines
put_back [] link = refl
put_back (line ∷ lines) zero = refl
put_back (line ∷ lines) (suc link) = ap (λ (rest : List (List SignalUnit)). line ∷ rest) (put_back lines link)

-- a line that is there is the one that is got
got : (lines : List (List SignalUnit)) (link : ℕ) (other : List SignalUnit) → link < length lines → get_or lines link other ≡ units_on link lines
got [] link other there = absurd (omega (arith, there))
got (line ∷ lines) zero other there = refl
got (line ∷ lines) (suc link) other there = got lines link other (omega (arith, there))

is_taken : (unit : Option SignalUnit) (lines : List (List SignalUnit)) (link place : ℕ) (old new : List SignalUnit)
    → old ≡ units_on link lines → IsTakenFrom unit old place new
    → IsTakenOut unit link place lines (slice_set lines link new)
is_taken None lines link place old new e (all, kept) = (rw (← e) all, rw (kept, e) (put_back lines link))
is_taken (Some unit) lines link place old new e (there, rest) = (rw (← e) there, rw (rest, e) refl)

pub taken : (unit : Option SignalUnit) (lines : List (List SignalUnit)) (link place : ℕ)
    (other old new : List SignalUnit) → link < length lines → old ≡ get_or lines link other
    → IsTakenFrom unit old place new
    → IsTakenOut unit link place lines (slice_set lines link new)
taken unit lines link place other old new known e from = is_taken unit lines link place old new (e ∙ got lines link other known) from
