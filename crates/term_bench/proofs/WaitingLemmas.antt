-- Bits that wait, and the octet that is whole with those that come.
use Rattle.std.proofs.Common.{sym, ap, arith, ◌≡◌, ◌∙◌, ℕ, ◌+◌, ◌*◌, ◌/◌, ◌%◌, ◌^◌, ◌<◌, Bool, true, false, List, [], ◌∷◌, ◌++◌, length, take, drop, if◌then◌else◌, length-append, append-nil, Option, None, Some, IfNone, IfSome}
use Rattle.std.proofs.Math.Nat.{mod-eq_of_lt}
use Rattle.std.proofs.lemmas.List.{drop_at, take_at}
use Rattle.std.proofs.lemmas.Nat.{div-mul-add, mod-mul-add}
use Rattle.l2_bits.proofs.BitLemmas.{bits_of-add, bits_of-suc, bits_of-zero, length-bits_of, number_of-bits_of}
use Rattle.l2_bits.proofs.OctetLemmas.{bits_of_mod}
use Rattle.l2_bits.specs.LineBits.{bits_of, number_of}

-- bits and those behind them are the bits of one number
pub joined : (waiting count bits more : ℕ) → bits < 2 ^ waiting
    → bits_of waiting bits ++ bits_of count more ≡ bits_of (waiting + count) (more * 2 ^ waiting + bits)
joined waiting count bits more below =
    let whole = more * 2 ^ waiting + bits in
    let first : bits_of waiting whole ≡ bits_of waiting bits =
    sym (bits_of_mod waiting whole) ∙ ap (λ n. bits_of waiting n) (mod-mul-add more (2 ^ waiting) bits below) in
    let later : whole / 2 ^ waiting ≡ more = div-mul-add more (2 ^ waiting) bits below in
    sym (bits_of-add waiting count whole ∙ ap (λ n. bits_of waiting whole ++ bits_of count n) later
    ∙ ap (λ (front : List Bool). front ++ bits_of count more) first)

-- the octet of the first eight, and the bits behind it
pub octet_of : (waiting bits more octet : ℕ) → bits < 2 ^ waiting → octet ≡ (more * 2 ^ waiting + bits) % 256
    → octet ≡ number_of (take 8 (bits_of waiting bits ++ bits_of 8 more))
octet_of waiting bits more octet below is =
    let whole = more * 2 ^ waiting + bits in
    let split : bits_of waiting bits ++ bits_of 8 more ≡ bits_of 8 whole ++ bits_of waiting (whole / 2 ^ 8) =
    joined waiting 8 bits more below ∙ ap (λ n. bits_of n whole) (omega arith) ∙ bits_of-add 8 waiting whole in
    let eight : take 8 (bits_of waiting bits ++ bits_of 8 more) ≡ bits_of 8 whole =
    ap (λ (all : List Bool). take 8 all) split ∙ take_at (bits_of 8 whole) (bits_of waiting (whole / 2 ^ 8)) 8 (length-bits_of 8 whole) in
    is ∙ sym (number_of-bits_of 8 whole) ∙ sym (ap (λ (all : List Bool). number_of all) eight)

pub rest_of : (waiting bits more rest : ℕ) → bits < 2 ^ waiting → rest ≡ (more * 2 ^ waiting + bits) / 256
    → bits_of waiting rest ≡ drop 8 (bits_of waiting bits ++ bits_of 8 more)
rest_of waiting bits more rest below is =
    let whole = more * 2 ^ waiting + bits in
    let split : bits_of waiting bits ++ bits_of 8 more ≡ bits_of 8 whole ++ bits_of waiting (whole / 2 ^ 8) =
    joined waiting 8 bits more below ∙ ap (λ n. bits_of n whole) (omega arith) ∙ bits_of-add 8 waiting whole in
    ap (λ n. bits_of waiting n) is ∙ sym (ap (λ (all : List Bool). drop 8 all) split
    ∙ drop_at (bits_of 8 whole) (bits_of waiting (whole / 2 ^ 8)) 8 (length-bits_of 8 whole))

-- one bit more
pub one_bit : (waiting bits : ℕ) (bit : Bool) (more : ℕ) → bits < 2 ^ waiting → more ≡ (if bit then 2 ^ waiting else 0) + bits
    → bits_of (waiting + 1) more ≡ bits_of waiting bits ++ bit ∷ []
one_bit waiting bits true more below is =
    ap (λ n. bits_of (waiting + 1) n) (is ∙ omega arith) ∙ sym (joined waiting 1 bits 1 below)
    ∙ ap (λ (last : List Bool). bits_of waiting bits ++ last) (bits_of-suc 0 1 ∙ ap (λ (rest : List Bool). true ∷ rest) (bits_of-zero 0))
one_bit waiting bits false more below is =
    ap (λ n. bits_of (waiting + 1) n) (is ∙ omega arith) ∙ sym (joined waiting 1 bits 0 below)
    ∙ ap (λ (last : List Bool). bits_of waiting bits ++ last) (bits_of-suc 0 0 ∙ ap (λ (rest : List Bool). false ∷ rest) (bits_of-zero 0))

-- the octet that is whole with it
pub whole_by : (waiting bits : ℕ) (bit : Bool) (more : ℕ) → waiting ≡ 7 → bits < 2 ^ waiting → more < 256
    → more ≡ (if bit then 2 ^ waiting else 0) + bits → more ≡ number_of (bits_of waiting bits ++ bit ∷ [])
whole_by waiting bits bit more seven below few is =
    let eight : waiting + 1 ≡ 8 = omega arith in
    sym (mod-eq_of_lt few) ∙ sym (number_of-bits_of 8 more) ∙ ap (λ n. number_of (bits_of n more)) (sym eight)
    ∙ ap (λ (all : List Bool). number_of all) (one_bit waiting bits bit more below is)

pub length_by : (waiting bits : ℕ) (bit : Bool) → length (bits_of waiting bits ++ bit ∷ []) ≡ waiting + 1
length_by waiting bits bit = length-append (bits_of waiting bits) (bit ∷ []) ∙ ap (λ n. n + 1) (length-bits_of waiting bits)

-- eight bits are all of an octet
pub take_eight : (bits : List Bool) → length bits ≡ 8 → take 8 bits ≡ bits
take_eight bits eight = ap (λ (all : List Bool). take 8 all) (sym (append-nil bits)) ∙ take_at bits [] 8 eight

pub drop_eight : (bits : List Bool) → length bits ≡ 8 → drop 8 bits ≡ []
drop_eight bits eight = ap (λ (all : List Bool). drop 8 all) (sym (append-nil bits)) ∙ drop_at bits [] 8 eight

-- what follows of an option's value, or of there being none
pub some_weaker : {X : Type 0} (o : Option X) (P Q : X → Type 0) → ((x : X) → P x → Q x) → IfSome o P → IfSome o Q
some_weaker None P Q follows holds = holds
some_weaker (Some x) P Q follows holds = follows x holds

pub none_weaker : {X : Type 0} (o : Option X) (P Q : Type 0) → (P → Q) → IfNone o P → IfNone o Q
none_weaker None P Q follows holds = follows holds
none_weaker (Some x) P Q follows holds = holds
