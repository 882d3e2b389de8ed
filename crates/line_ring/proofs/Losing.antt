-- What passes of octets that one more joins.
use Rattle.std.proofs.Common.{◌≡◌, ℕ, zero, suc, ◌+◌, ◌%◌, ◌<◌, ◌≤◌, Bool, true, false, nat_eq, if◌then◌else◌, List, [], ◌∷◌, ◌++◌, length, sym, ap, ◌∙◌, arith}
use Rattle.line_ring.specs.Lossy.{is_lost, passing_from, passing}

-- what follows a list stands behind it, whether its first octet passes or not
passed_first : (lost : Bool) (first : ℕ) (xs ys tail : List ℕ) → ys ≡ xs ++ tail
    → (if lost then ys else first ∷ ys) ≡ (if lost then xs else first ∷ xs) ++ tail
passed_first true first xs ys tail more = more
passed_first false first xs ys tail more = ap (λ l. first ∷ l) more

-- the last of them passes or not by its own number
passing_from-push : (every number : ℕ) (octets : List ℕ) (octet : ℕ)
    → passing_from every number (octets ++ octet ∷ []) ≡ passing_from every number octets ++ (if is_lost every (number + length octets) then [] else octet ∷ [])
passing_from-push every number [] octet = ap (λ (n : ℕ). if is_lost every n then [] else octet ∷ []) (omega arith)
passing_from-push every number (first ∷ octets) octet =
    let count : number + 1 + length octets ≡ number + length (first ∷ octets) = omega arith in
    passed_first (is_lost every number) first (passing_from every (number + 1) octets) (passing_from every (number + 1) (octets ++ octet ∷ [])) (if is_lost every (number + length (first ∷ octets)) then [] else octet ∷ [])
    (passing_from-push every (number + 1) octets octet ∙ ap (λ (n : ℕ). passing_from every (number + 1) octets ++ (if is_lost every n then [] else octet ∷ [])) count)

-- among all octets that were ever put, the last has their count as its number
pub passing-push : (every : ℕ) (octets : List ℕ) (octet : ℕ)
    → passing every (octets ++ octet ∷ []) ≡ passing every octets ++ (if is_lost every (length octets + 1) then [] else octet ∷ [])
passing-push every octets octet =
    passing_from-push every 1 octets octet
    ∙ ap (λ (n : ℕ). passing every octets ++ (if is_lost every n then [] else octet ∷ [])) (omega arith)

-- where octets are lost, it's those at place 0
pub is_lost-place : (every place number : ℕ) → 0 < every → place ≡ number % every
    → is_lost every number ≡ nat_eq place 0
is_lost-place zero place number some here = absurd (omega (arith, some))
is_lost-place (suc before) place number some here = ap (λ n. nat_eq n 0) (sym here)

pub is_lost-none : (every number : ℕ) → every ≡ 0 → is_lost every number ≡ false
is_lost-none every number none = ap (λ e. is_lost e number) none

-- one octet more at most
pub length-tail : (lost : Bool) (octet : ℕ) → length (if lost then [] else octet ∷ []) ≤ 1
length-tail true octet = omega arith
length-tail false octet = omega arith
