-- Choices, and the table's chains of them.
use Rattle.std.proofs.Common.{◌≡◌, Bool, true, false, Option, Some, None, ℕ, if◌then◌else◌, refl}
use Rattle.l3_link.specs.Lengths.{is_over, runs}
use Rattle.l3_link.specs.Management.{Management}
use Rattle.l3_link.specs.Table.{Row, acted, t1_ends, t2_ends, t4_ends, t5_ends, k1_ends, k2_ends, p_ends, risen, count_down, p_anew, due, t1_anew, less, seeing, goes_out, gone_out, looking, at_work, silent}
use Rattle.l3_link.specs.Lengths.{lessened}
use Rattle.l3_link.specs.Table.{p_starts, t1_starts, t17_stops, with_clocks}
use Rattle.l3_link.specs.declared.clocks.Clocks.{Clocks}
use Rattle.l3_link.specs.declared.signals.Seen.{Seen}
use Rattle.std.proofs.Common.{not, ◌&&◌}

-- what holds of both sides holds of a choice between them
pub choose : {A : Type 0} (P : A → Type 0) (b : Bool) (x y : A) → (b ≡ true → P x) → (b ≡ false → P y) → P (if b then x else y)
choose P true x y f g = f refl
choose P false x y f g = g refl

pub over_runs : (c : Option ℕ) → is_over c ≡ true → runs c ≡ true
over_runs None h = absurd cc
over_runs (Some k) h = refl

-- what holds of the end of each timer, and of a link that is due, holds of what is done
pub acted_by : (P : Row → Type 0) (m : Management) → (is_over m.clocks.t1 ≡ true → P (t1_ends m)) → (is_over m.clocks.t2 ≡ true → P (t2_ends m)) → P (t4_ends m) → P (t5_ends m) → (is_over m.clocks.k1 ≡ true → P (k1_ends m.state m)) → (is_over m.clocks.k2 ≡ true → P (k2_ends m)) → P (p_ends m) → P (risen m) → P (acted m)
unfolding acted
acted_by P m h1 h2 h4 h5 hk1 hk2 hp hr =
    choose P (is_over m.clocks.t1) _ _ h1 (λ e1.
    choose P (is_over m.clocks.t2) _ _ h2 (λ e2.
    choose P (is_over m.clocks.t4) _ _ (λ e. h4) (λ e4.
    choose P (is_over m.clocks.t5) _ _ (λ e. h5) (λ e5.
    choose P (is_over m.clocks.k1) _ _ hk1 (λ e6.
    choose P (is_over m.clocks.k2) _ _ hk2 (λ e7.
    choose P (is_over m.clocks.p) _ _ (λ e. hp) (λ e8. hr)))))))

-- what counting down keeps
pub counted_by : (P : Management → Type 0) (m : Management) → P (less m) → ((n : Management) → P n → P (t1_anew n)) → ((n : Management) → P n → P (due n)) → ((n : Management) → P n → P (p_anew n)) → P (count_down m)
unfolding count_down
counted_by P m h f g k = k (due (t1_anew (less m))) (g (t1_anew (less m)) (f (less m) h))

-- the same, of what timers don't change
pub counted_same : (P : Management → Type 0) (m : Management) → ((k : Management) (c : Clocks) → P k → P (with_clocks c k)) → P m → P (count_down m)
counted_same P m f h = counted_by P m (f m (lessened m.clocks) h)
    (λ k e. choose P (is_over k.clocks.t1 && k.seen.hopes) (with_clocks (t1_starts k.times k.clocks) k) k (λ q. f k _ e) (λ q. e))
    (λ k e. choose P (is_over k.clocks.t17) (with_clocks (t17_stops k.clocks) k) k (λ q. f k _ e) (λ q. e))
    (λ k e. choose P (is_over k.clocks.p && not k.seen.others) (with_clocks (p_starts k.times k.clocks) k) k (λ q. f k _ e) (λ q. e))

-- the rows by what is seen
pub seen_by : (P : Row → Type 0) (s : Seen) (m : Management) → (goes_out s m ≡ true → P (silent (gone_out (looking s m)))) → (goes_out s m ≡ false → P (at_work m.state (m.seen.others && not s.others) (looking s m))) → P (seeing s m)
unfolding seeing
seen_by P s m f g = choose P (goes_out s m) _ _ f g
