-- The table of texts of four bits
use Rattle.std.proofs.Common.{◌≡◌, ℕ, zero, suc, ◌+◌, ◌*◌, ◌/◌, ◌%◌, ◌^◌, ◌<◌, ◌≤◌, ◌==◌, nat_lt, nat_le, Bool, true, false, if◌then◌else◌, List, [], ◌∷◌, ◌++◌, length, get_or, bit_and, refl, ap, ◌∙◌, arith}
use Rattle.std.proofs.lemmas.Bool.{false≢true}
use Rattle.std.proofs.lemmas.Bool.Decides.{nat_tests}
use Rattle.std.proofs.lemmas.Nat.{and_mask}
use Rattle.l2_bits.specs.LineBits.{bits_of}
use Rattle.l2_bits.specs.Stuffing.{text_after}
use Rattle.l2_bits.specs.declared.stuffing.TheConstants.{TEXTS}
use Rattle.l2_bits.proofs.TableLemmas.{both}

-- the run of ones that bits end in, where a run of so many stands before them: a fifth one begins anew
run_after : ℕ → List Bool → ℕ
run_after run [] = run
run_after run (false ∷ bits) = run_after 0 bits
run_after run (true ∷ bits) = if run == 4 then run_after 0 bits else run_after (run + 1) bits

-- the text of bits, and then of others
text_apart : (run : ℕ) (bits rest : List Bool) → text_after run (bits ++ rest) ≡ text_after run bits ++ text_after (run_after run bits) rest
unfolding text_after run_after
text_apart run [] rest = refl
text_apart run (false ∷ bits) rest = ap (λ (more : List Bool). false ∷ more) (text_apart 0 bits rest)
text_apart run (true ∷ bits) rest = by (run == 4) (text_apart 0 bits rest) (text_apart (run + 1) bits rest)
  where
    by : (b : Bool)
        → text_after 0 (bits ++ rest) ≡ text_after 0 bits ++ text_after (run_after 0 bits) rest
        → text_after (run + 1) (bits ++ rest) ≡ text_after (run + 1) bits ++ text_after (run_after (run + 1) bits) rest
        → (if b then true ∷ false ∷ text_after 0 (bits ++ rest) else true ∷ text_after (run + 1) (bits ++ rest))
        ≡ (if b then true ∷ false ∷ text_after 0 bits else true ∷ text_after (run + 1) bits)
        ++ text_after (if b then run_after 0 bits else run_after (run + 1) bits) rest
    by true fifth other = ap (λ (more : List Bool). true ∷ false ∷ more) fifth
    by false fifth other = ap (λ (more : List Bool). true ∷ more) other

same : List Bool → List Bool → Bool
same [] [] = true
same [] (y ∷ b) = false
same (x ∷ a) [] = false
same (true ∷ a) (true ∷ b) = same a b
same (false ∷ a) (false ∷ b) = same a b
same (true ∷ a) (false ∷ b) = false
same (false ∷ a) (true ∷ b) = false

same_is : (a b : List Bool) → same a b ≡ true → a ≡ b
unfolding same
same_is [] [] h = refl
same_is [] (y ∷ b) h = absurd (false≢true h)
same_is (x ∷ a) [] h = absurd (false≢true h)
same_is (true ∷ a) (true ∷ b) h = ap (λ (bits : List Bool). true ∷ bits) (same_is a b h)
same_is (false ∷ a) (false ∷ b) h = ap (λ (bits : List Bool). false ∷ bits) (same_is a b h)
same_is (true ∷ a) (false ∷ b) h = absurd (false≢true h)
same_is (false ∷ a) (true ∷ b) h = absurd (false≢true h)

-- what an entry says
abbrev pub bits_at : ℕ → ℕ
bits_at entry = entry % 256

abbrev pub count_at : ℕ → ℕ
count_at entry = entry / 256 % 16

abbrev pub run_at : ℕ → ℕ
run_at entry = entry / 4096

-- THE RULE of an entry: the text of four bits after a run of ones
pub record IsText (run half bits count after : ℕ) : Type 0 where
  pub text : (rest : List Bool) → text_after run (bits_of 4 half ++ rest) ≡ bits_of count bits ++ text_after after rest
  pub few : after ≤ 4
  pub fits : bits < 2 ^ count
  pub most : count ≤ 5
  pub bound : count * 5 + after ≤ run + 24

IsEntry : ℕ → ℕ → ℕ → Type 0
IsEntry run half entry = IsText run half (bits_at entry) (count_at entry) (run_at entry)

is_entry : ℕ → ℕ → ℕ → Bool
is_entry run half entry =
    if same (text_after run (bits_of 4 half)) (bits_of (count_at entry) (bits_at entry)) then
    if run_after run (bits_of 4 half) == run_at entry then
    if nat_le (run_at entry) 4 then
    if nat_lt (bits_at entry) (2 ^ count_at entry) then
    if nat_le (count_at entry) 5 then nat_le (count_at entry * 5 + run_at entry) (run + 24)
    else false else false else false else false else false

equal : (a b : ℕ) → (a == b) ≡ true → a ≡ b
equal a b h = grind (arith, nat_tests)

below : (a b : ℕ) → nat_lt a b ≡ true → a < b
below a b h = grind (arith, nat_tests)

within : (a b : ℕ) → nat_le a b ≡ true → a ≤ b
within a b h = grind (arith, nat_tests)

entry_is : (run half entry : ℕ) → is_entry run half entry ≡ true → IsEntry run half entry
unfolding is_entry IsEntry
entry_is run half entry passes =
    let first = both _ _ passes in
    let second = both _ _ first.1 in
    let third = both _ _ second.1 in
    let fourth = both _ _ third.1 in
    let fifth = both _ _ fourth.1 in
    let texts = same_is _ _ first.0 in
    let runs = equal _ _ second.0 in
    record {
      text = λ rest.
          text_apart run (bits_of 4 half) rest
          ∙ ap (λ (front : List Bool). front ++ text_after (run_after run (bits_of 4 half)) rest) texts
          ∙ ap (λ (n : ℕ). bits_of (count_at entry) (bits_at entry) ++ text_after n rest) runs;
      few = within _ _ third.0;
      fits = below _ _ fourth.0;
      most = within _ _ fifth.0;
      bound = within _ _ fifth.1;
    }

-- the entries from a place on are such
are_entries : ℕ → List ℕ → Bool
are_entries place [] = true
are_entries place (entry ∷ entries) =
    if is_entry (place / 16) (place % 16) entry then are_entries (suc place) entries else false

entry_at : (from place : ℕ) (entries : List ℕ) → are_entries from entries ≡ true → place < length entries
    → is_entry ((from + place) / 16) ((from + place) % 16) (get_or entries place 0) ≡ true
unfolding are_entries
entry_at from place [] passes few = absurd (omega arith)
entry_at from zero (entry ∷ entries) passes few =
    let sum : from + 0 ≡ from = omega arith in
    rw sum ((both (is_entry (from / 16) (from % 16) entry) (are_entries (suc from) entries) passes).0)
entry_at from (suc place) (entry ∷ entries) passes few =
    let sum : from + suc place ≡ suc from + place = omega arith in
    rw sum (entry_at (suc from) place entries ((both (is_entry (from / 16) (from % 16) entry) (are_entries (suc from) entries) passes).1) (omega arith))

passes : are_entries 0 TEXTS ≡ true
unfolding are_entries is_entry same run_after text_after bits_of
passes = refl

text_at : (run half : ℕ) → run ≤ 4 → half < 16 → IsEntry run half (get_or TEXTS (run * 16 + half) 0)
text_at run half few fits =
    let place : ℕ = run * 16 + half in
    let row : (0 + place) / 16 ≡ run = omega arith in
    let column : (0 + place) % 16 ≡ half = omega arith in
    entry_is run half (get_or TEXTS place 0)
    (rw (row, column) at (entry_at 0 place TEXTS passes (omega arith)))

-- as the code reads an entry
pub text_read : (run half : ℕ) → run ≤ 4 → half < 16
    → IsText run half
    (bit_and (get_or TEXTS (run * 16 + half) 0) 255)
    (bit_and (get_or TEXTS (run * 16 + half) 0 / 256) 15)
    (get_or TEXTS (run * 16 + half) 0 / 4096)
unfolding IsEntry
text_read run half few fits =
    let entry : ℕ = get_or TEXTS (run * 16 + half) 0 in
    rw (and_mask entry 8, and_mask (entry / 256) 4) (text_at run half few fits)
