-- The arithmetic of numbers, once for each profile: each lemma is one line of arithmetic, said twice.
use Rattle.std.proofs.Common.{refl, arith, ◌≡◌, ℕ, ◌+◌, ◌-◌, ◌%◌, ◌<◌, ◌≤◌}
use Rattle.l2_window.specs.Window.{Profile, Narrow, Wide, fsn_count, most_unacked, fsn_before_first}

pub below : (p : Profile) (n : ℕ) → n % fsn_count p < fsn_count p
below Narrow n = omega arith
below Wide n = omega arith

pub below_by : (p : Profile) (number n : ℕ) → number ≡ n % fsn_count p → number < fsn_count p
below_by Narrow number n e = omega arith
below_by Wide number n e = omega arith

-- twelve bits are enough for them
pub in_header : (p : Profile) (n : ℕ) → n < fsn_count p → n % 4096 ≡ n
in_header Narrow n h = omega arith
in_header Wide n h = omega arith

pub zero_is : (p : Profile) → 0 % fsn_count p ≡ 0
zero_is Narrow = omega arith
zero_is Wide = omega arith

pub from_zero : (p : Profile) → fsn_before_first p ≡ (0 + fsn_before_first p) % fsn_count p
from_zero Narrow = refl
from_zero Wide = refl

-- so many have been acknowledged: the number of the message at a place of those that aren't
pub number_at : (p : Profile) (last acked place : ℕ) → last ≡ (acked + fsn_before_first p) % fsn_count p → (last + 1 + place) % fsn_count p ≡ (acked + place) % fsn_count p
number_at Narrow last acked place h = omega arith
number_at Wide last acked place h = omega arith

-- and the number of the last one sent
pub number_last : (p : Profile) (last acked size sent : ℕ) → last ≡ (acked + fsn_before_first p) % fsn_count p → acked + size ≡ sent → (last + size) % fsn_count p ≡ (sent + fsn_before_first p) % fsn_count p
number_last Narrow last acked size sent h e = omega arith
number_last Wide last acked size sent h e = omega arith

-- the number that tells a count acknowledges just up to it
pub distance_is : (p : Profile) (last acked count size : ℕ) → last ≡ (acked + fsn_before_first p) % fsn_count p → acked ≤ count → count ≤ acked + size → size ≤ most_unacked p → acked + ((count + fsn_before_first p) % fsn_count p + fsn_count p - last) % fsn_count p ≡ count
distance_is Narrow last acked count size h a b c = omega arith
distance_is Wide last acked count size h a b c = omega arith

-- so many more are acknowledged by a number: it is the one last acknowledged then
pub acked_is : (p : Profile) (acked last number : ℕ) → last ≡ (acked + fsn_before_first p) % fsn_count p → number < fsn_count p → (acked + (number + fsn_count p - last) % fsn_count p + fsn_before_first p) % fsn_count p ≡ number
acked_is Narrow acked last number h b = omega arith
acked_is Wide acked last number h b = omega arith

-- no distance: the number is that last acknowledged
pub no_distance : (p : Profile) (last number : ℕ) → (number + fsn_count p - last) % fsn_count p ≡ 0 → number < fsn_count p → last < fsn_count p → number ≡ last
no_distance Narrow last number e b l = omega arith
no_distance Wide last number e b l = omega arith

-- the number before the one that is expected tells how many were accepted
pub bsn_is : (p : Profile) (expected taken : ℕ) → expected ≡ taken % fsn_count p → (expected + fsn_before_first p) % fsn_count p ≡ (taken + fsn_before_first p) % fsn_count p
bsn_is Narrow expected taken h = omega arith
bsn_is Wide expected taken h = omega arith

-- the number that is expected is that of the next message
pub next_is : (p : Profile) (expected taken place high : ℕ) → place % fsn_count p ≡ expected → expected ≡ taken % fsn_count p → place < high → high ≤ place + most_unacked p → taken ≤ high → high ≤ taken + most_unacked p → place ≡ taken
next_is Narrow expected taken place high e h a b c d = omega arith
next_is Wide expected taken place high e h a b c d = omega arith

-- then the one after it is expected
pub after_next : (p : Profile) (fsn place : ℕ) → fsn ≡ place % fsn_count p → (fsn + 1) % fsn_count p ≡ (place + 1) % fsn_count p
after_next Narrow fsn place h = omega arith
after_next Wide fsn place h = omega arith

pub some_most : (p : Profile) → 0 < most_unacked p
some_most Narrow = omega arith
some_most Wide = omega arith

pub most_small : (p : Profile) → most_unacked p ≤ 4095
most_small Narrow = omega arith
most_small Wide = omega arith
