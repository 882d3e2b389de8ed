-- THE FIGURES of the script: numbers and hexadecimal.
use Rattle.std.specs.Prelude.{◌≡◌, ℕ, Bool, true, false, ◌==◌, ◌&&◌, ◌+◌, ◌-◌, ◌*◌, ◌/◌, ◌%◌, ◌^◌, ◌⊎◌, ◌≤◌, nat_lt, nat_le, List, [], ◌∷◌, length, Option, Some, None, if◌then◌else◌}
use Rattle.std.specs.Option.{option_map, option_and_then}

-- Numbers.

abbrev pub is_digit : ℕ → Bool
is_digit c = nat_le 48 c && nat_le c 57

-- the value of digits behind those of this value
abbrev pub digits_behind : ℕ → List ℕ → Option ℕ
digits_behind value [] = Some value
digits_behind value (c ∷ cs) = if is_digit c then digits_behind (10 * value + (c - 48)) cs else None

abbrev pub below_2_64 : ℕ → Option ℕ
below_2_64 n = if nat_lt n (2 ^ 64) then Some n else None

-- a number below 2^64: a digit that isn't 0, and more digits; or 0
abbrev pub number_of : List ℕ → Option ℕ
number_of [] = None
number_of (c ∷ cs) =
    if c == 48 then (if length cs == 0 then Some 0 else None)
    else option_and_then below_2_64 (digits_behind 0 (c ∷ cs))

-- Hexadecimal.

abbrev pub hex_value : ℕ → Option ℕ
hex_value c =
    if is_digit c then Some (c - 48)
    else (if nat_le 65 c && nat_le c 70 then Some (c - 55)
    else (if nat_le 97 c && nat_le c 102 then Some (c - 87) else None))

-- the octet of two digits, before these octets
abbrev pub octet_before : Option ℕ → Option ℕ → Option (List ℕ) → Option (List ℕ)
octet_before (Some high) (Some low) (Some octets) = Some ((16 * high + low) ∷ octets)
octet_before (Some high) (Some low) None = None
octet_before (Some high) None octets = None
octet_before None low octets = None

abbrev pub octets_of : List ℕ → Option (List ℕ)
octets_of [] = Some []
octets_of (c ∷ []) = None
octets_of (c ∷ d ∷ cs) = octet_before (hex_value c) (hex_value d) (octets_of cs)

-- a number below a bound
abbrev pub number_below : ℕ → List ℕ → Option ℕ
number_below bound word =
    option_and_then (λ n. if nat_lt n bound then Some n else None) (number_of word)

-- one octet, in two digits
abbrev pub octet_of : List ℕ → Option ℕ
octet_of (c ∷ d ∷ []) =
    option_and_then (λ high. option_map (λ low. 16 * high + low) (hex_value d)) (hex_value c)
octet_of (c ∷ d ∷ e ∷ more) = None
octet_of (c ∷ []) = None
octet_of [] = None

-- the digit of a value below 16, in lower case
abbrev pub hex_digit : ℕ → ℕ
hex_digit value = if nat_lt value 10 then value + 48 else value + 87

-- octets in lower case hexadecimal
abbrev pub hex_text : List ℕ → List ℕ
hex_text [] = []
hex_text (octet ∷ octets) = hex_digit (octet / 16) ∷ hex_digit (octet % 16) ∷ hex_text octets

-- a digit more isn't there, or its value isn't below 2^64
abbrev pub NoDigitFits : ℕ → ℕ → Type 0
NoDigitFits value c = (is_digit c ≡ false) ⊎ (2 ^ 64 ≤ 10 * value + (c - 48))

-- 1 for yes and 0 for no
abbrev pub bit : Bool → ℕ
bit true = 1
bit false = 0
