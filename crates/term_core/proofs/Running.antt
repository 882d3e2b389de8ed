-- Timers of which none has ended
use Rattle.std.proofs.Common.{◌≡◌, ℕ, ◌||◌, Bool, true, false, Option, refl, sym}
use Rattle.std.proofs.lemmas.Bool.{false≢true}
use Rattle.term_model.specs.Timing.{lessened, is_over}
use Rattle.term_model.specs.declared.timers.Clocks.{Clocks}
use Rattle.term_core.specs.TimerEnds.{has_such, NoEndNoTalk}

neither : (a b : Bool) → (a || b) ≡ false → (a ≡ false) × (b ≡ false)
neither true b h = absurd (false≢true (sym h))
neither false b h = (refl, h)

-- none of the seven is such
record NoneIs (such : Option ℕ → Bool) (clocks : Clocks) : Type 0 where
  t1 : such clocks.t1 ≡ false
  t2 : such clocks.t2 ≡ false
  t3 : such clocks.t3 ≡ false
  t4 : such clocks.t4 ≡ false
  t5 : such clocks.t5 ≡ false
  t6 : such clocks.t6 ≡ false
  t7 : such clocks.t7 ≡ false

none_is : (such : Option ℕ → Bool) (clocks : Clocks) → has_such such clocks ≡ false → NoneIs such clocks
none_is such clocks h =
    let to_6 = neither _ (such clocks.t7) h in
    let to_5 = neither _ (such clocks.t6) to_6.0 in
    let to_4 = neither _ (such clocks.t5) to_5.0 in
    let to_3 = neither _ (such clocks.t4) to_4.0 in
    let to_2 = neither _ (such clocks.t3) to_3.0 in
    let to_1 = neither (such clocks.t1) (such clocks.t2) to_2.0 in
    record { t1 = to_1.0; t2 = to_1.1; t3 = to_2.1; t4 = to_3.1; t5 = to_4.1; t6 = to_5.1; t7 = to_6.1 }

pub no_talk : NoEndNoTalk
no_talk t h =
    let none = none_is is_over (lessened t).clocks h in
    rw (none.t1, none.t2, none.t3, none.t4, none.t5, none.t6, none.t7) refl
