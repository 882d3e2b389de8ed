-- A line that is joined to itself and loses octets.
use Rattle.std.specs.Prelude.{ℕ, zero, suc, ◌+◌, ◌%◌, ◌==◌, Bool, false, if◌then◌else◌, List, [], ◌∷◌}

-- the octet of this number, from 1, is lost: its number is a multiple of `every` (0: none is)
abbrev pub is_lost : ℕ → ℕ → Bool
is_lost zero number = false
is_lost (suc before) number = number % suc before == 0

-- what passes of octets, the first of which has this number
abbrev pub passing_from : ℕ → ℕ → List ℕ → List ℕ
passing_from every number [] = []
passing_from every number (octet ∷ octets) =
    let behind : List ℕ = passing_from every (number + 1) octets in
    if is_lost every number then behind else octet ∷ behind

-- what passes of all octets that were ever put
abbrev pub passing : ℕ → List ℕ → List ℕ
passing every octets = passing_from every 1 octets

-- what contracts see of such a line: which octets it loses, what was put, what was taken, and what waits, oldest first
pub record LossyState : Type 0 where
  pub every : ℕ
  pub put : List ℕ
  pub taken : List ℕ
  pub waiting : List ℕ

-- a new one, that loses each octet whose number is a multiple of `every`
abbrev pub new_line : ℕ → LossyState
new_line every = record { every = every; put = []; taken = []; waiting = [] }
