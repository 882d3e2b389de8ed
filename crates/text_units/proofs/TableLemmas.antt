-- The digits by a table
use Rattle.std.proofs.Common.{◌≡◌, ℕ, zero, suc, ◌+◌, ◌<◌, ◌==◌, nat_lt, Bool, true, false, if◌then◌else◌, List, [], ◌∷◌, length, get_or, Option, Some, None, refl, ap, ◌∙◌, arith}
use Rattle.std.proofs.lemmas.Bool.{false≢true}
use Rattle.std.proofs.lemmas.Bool.Decides.{nat_tests}
use Rattle.text_base.specs.Figures.{hex_value}
use Rattle.text_units.specs.declared.digit.TheConstants.{VALUES}

-- what an entry says
abbrev pub said : ℕ → Option ℕ
said entry = if nat_lt entry 16 then Some entry else None

same : Option ℕ → Option ℕ → Bool
same None None = true
same None (Some b) = false
same (Some a) None = false
same (Some a) (Some b) = a == b

equal : (a b : Option ℕ) → same a b ≡ true → a ≡ b
unfolding same
equal None None h = refl
equal None (Some b) h = absurd (false≢true h)
equal (Some a) None h = absurd (false≢true h)
equal (Some a) (Some b) h = ap Some (by h)
  where
    by : (a == b) ≡ true → a ≡ b
    by h = grind (arith, nat_tests)

-- the entries from a place on are right
are_values : ℕ → List ℕ → Bool
are_values place [] = true
are_values place (entry ∷ entries) = if same (said entry) (hex_value place) then are_values (suc place) entries else false

both : (a b : Bool) → (if a then b else false) ≡ true → (a ≡ true) × (b ≡ true)
both true b h = (refl, h)
both false b h = absurd (false≢true h)

entry_at : (from place : ℕ) (entries : List ℕ) → are_values from entries ≡ true → place < length entries
    → said (get_or entries place 0) ≡ hex_value (from + place)
unfolding are_values
entry_at from place [] passes within = absurd (omega arith)
entry_at from zero (entry ∷ entries) passes within =
    let sum : from + 0 ≡ from = omega arith in
    rw sum (equal (said entry) (hex_value from) (both (same (said entry) (hex_value from)) (are_values (suc from) entries) passes).0)
entry_at from (suc place) (entry ∷ entries) passes within =
    let sum : from + suc place ≡ suc from + place = omega arith in
    rw sum (entry_at (suc from) place entries (both (same (said entry) (hex_value from)) (are_values (suc from) entries) passes).1 (omega arith))

passes : are_values 0 VALUES ≡ true
unfolding are_values same
passes = refl

pub value_at : (c : ℕ) → c < 256 → said (get_or VALUES c 0) ≡ hex_value c
value_at c within =
    let sum : 0 + c ≡ c = omega arith in
    entry_at 0 c VALUES passes within ∙ ap hex_value sum
