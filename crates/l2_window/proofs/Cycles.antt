-- A NUMBER'S PLACE IN ITS CYCLE is what it has in common with the greatest number, all of whose bits are ones.
use Rattle.std.proofs.Common.{refl, arith, ◌≡◌, ℕ, ◌+◌, ◌%◌, subst, sym}
use Rattle.std.specs.Int.RustNames.{bit_and}
use Rattle.std.proofs.lemmas.Grind.{and_numeral}
use Rattle.l2_window.specs.Window.{Profile, Narrow, Wide, fsn_count, most_unacked}

pub low_bits : (p : Profile) (most n : ℕ) → most ≡ most_unacked p → bit_and n most ≡ n % fsn_count p
low_bits Narrow most n e = subst (λ (m : ℕ). bit_and n m ≡ n % 128) (sym e) (and_numeral n 126 refl)
low_bits Wide most n e = subst (λ (m : ℕ). bit_and n m ≡ n % 4096) (sym e) (and_numeral n 4094 refl)

-- a sum of 16 bits goes round at a multiple of the cycle
pub places_round : (p : Profile) (number place : ℕ) → ((place % 65536 + number) % 65536 + 1) % 65536 % fsn_count p ≡ (number + 1 + place) % fsn_count p
places_round Narrow number place = omega arith
places_round Wide number place = omega arith
