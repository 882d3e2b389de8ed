-- NOISE ON A LINE: what passes of the octets that are put into it.
use Rattle.std.specs.Prelude.{◌==◌, nat_lt, ◌+◌, ◌-◌, ◌*◌, ◌%◌, ◌^◌, ℕ, List, [], ◌∷◌, ◌++◌, map, Option, None, Some, if◌then◌else◌}
use Rattle.bank_traffic.specs.declared.asked.Traffic.{Traffic}
use Rattle.bank_traffic.specs.declared.noise.Noise.{Noise}
use Rattle.bank_traffic.specs.Opening.{numbers_below}

-- a draw behind another: a linear congruential generator modulo 2^32
abbrev pub drawn : ℕ → ℕ
drawn draw = (draw * 1664525 + 1013904223) % 2 ^ 32

-- one of so many octets is struck, or none where that is 0; the seed tells which is the first
abbrev pub first_noise : ℕ → ℕ → Noise
first_noise every seed = record {
  every = every;
  left = if every == 0 then 0 else drawn seed % every;
  draw = drawn seed;
}

-- WHAT PASSES of an octet: itself; or, where it's struck, the inverse of each bit, or nothing, as the draw tells
abbrev pub passed : Noise → ℕ → List ℕ
passed noise octet =
    if noise.every == 0 then octet ∷ [] else
    (if nat_lt 0 noise.left then octet ∷ [] else (if nat_lt noise.draw (2 ^ 31) then [] else (255 - octet) ∷ []))

-- the noise on the octets behind it
abbrev pub behind : Noise → Noise
behind noise =
    if noise.every == 0 then noise else
    (if nat_lt 0 noise.left then record noise { left = noise.left - 1 } else
    record noise { left = noise.every - 1; draw = drawn noise.draw })

-- OF ALL OCTETS, in order, and the noise on those behind them
abbrev pub passed_all : Noise → List ℕ → List ℕ
passed_all noise [] = []
passed_all noise (octet ∷ octets) = passed noise octet ++ passed_all (behind noise) octets

abbrev pub noise_behind : Noise → List ℕ → Noise
noise_behind noise [] = noise
noise_behind noise (octet ∷ octets) = noise_behind (behind noise) octets

-- of how many octets one is struck: 0 where none is
abbrev pub every_of : Option ℕ → ℕ
every_of None = 0
every_of (Some every) = every

-- THE SEED OF A LINE: the traffic's, and 40,503 more for each line before it, modulo 2^32. The lines of a set are numbered from 32
-- times its number, two for each link: what end a puts, and then what end b does
abbrev pub line_number : ℕ → ℕ → ℕ → ℕ
line_number set link end = set * 32 + link * 2 + end

abbrev pub seed_of : ℕ → ℕ → ℕ
seed_of seed line = (seed + line * 40503 % 2 ^ 32) % 2 ^ 32

-- the noise on what this end of a link puts, 0 for a and 1 for b
abbrev pub noise_on : Traffic → ℕ → ℕ → ℕ → Noise
noise_on traffic set link end = first_noise (every_of traffic.noise) (seed_of traffic.seed (line_number set link end))

-- on what this end of each link of a set puts, and of each set
abbrev pub set_noises : Traffic → ℕ → ℕ → List Noise
set_noises traffic end set = map (λ link. noise_on traffic set link end) (numbers_below traffic.links)

abbrev pub all_noises : Traffic → ℕ → List (List Noise)
all_noises traffic end = map (set_noises traffic end) (numbers_below traffic.sets)
