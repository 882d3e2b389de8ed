-- Octets stand for one unit at most.
use Rattle.std.proofs.Common.{refl, arith, zero, suc, get_or, ◌≡◌, ◌∙◌, ap, subst, sym, ◌<◌, ◌≤◌, ◌^◌, [], ◌∷◌, ◌++◌, length, ℕ, ◌+◌, ◌*◌, ◌/◌, ◌%◌, Bool, true, false, List, nat_le, ◌==◌, Some, None, Result, Ok, Err, IfOk}
use Rattle.std.specs.Prelude.{if◌then◌else◌}
use Rattle.std.specs.Result.{result_ok}
use Rattle.std.proofs.lemmas.Option.{same_Some, none-some}
use Rattle.std.proofs.lemmas.Bool.Decides.{nat_tests}
use Rattle.std.proofs.Props.{props}
use Rattle.l2_units.specs.declared.status.Status.{Status}
use Rattle.l2_units.specs.Numbers.{status_number}
use Rattle.l2_units.specs.declared.unit.Header.{Header}
use Rattle.l2_units.specs.declared.unit.Unit.{Unit as SignalUnit}
use Rattle.l2_units.specs.declared.unit.Unit.TheVariants.{Fisu, Lssu, Msu}
use Rattle.l2_units.specs.declared.reading.UnitFault.{UnitFault}
use Rattle.l2_units.specs.Profile.{Profile, Narrow, Wide, longest_body}
use Rattle.l2_units.specs.Grammar.{StandsFor, IsHeadOf, IsBodyOf, header_text, sequence_octet, wide_number, four_octets, octets_with, length_indicator, status_of, unit_of, unit_if, unit_with, header_in, wide_form, wide_header, head_of}

-- a header of these fields
header : (bsn : ℕ) → bsn < 2 ^ 12 → Bool → (fsn : ℕ) → fsn < 2 ^ 12 → Bool → Header
header bsn p bib fsn q fib = record { bsn = bsn; bib = bib; fsn = fsn; fib = fib; bsn_in_range = p; fsn_in_range = q }

below_is_prop : (m n : ℕ) → IsProp (m < n)
below_is_prop m n = hlevel props

same_bsn : (m n : ℕ) (p : m < 2 ^ 12) (q : n < 2 ^ 12) (bib : Bool) (fsn : ℕ) (r : fsn < 2 ^ 12) (fib : Bool) → m ≡ n → header m p bib fsn r fib ≡ header n q bib fsn r fib
unfolding header
same_bsn m n p q bib fsn r fib e =
    subst (λ (k : ℕ). (h : k < 2 ^ 12) → header m p bib fsn r fib ≡ header k h bib fsn r fib) e
    (λ h. ap (λ (z : m < 2 ^ 12). header m z bib fsn r fib) (below_is_prop m (2 ^ 12) p h)) q

same_fsn : (m n : ℕ) (p : m < 2 ^ 12) (q : n < 2 ^ 12) (bsn : ℕ) (r : bsn < 2 ^ 12) (bib fib : Bool) → m ≡ n → header bsn r bib m p fib ≡ header bsn r bib n q fib
unfolding header
same_fsn m n p q bsn r bib fib e =
    subst (λ (k : ℕ). (h : k < 2 ^ 12) → header bsn r bib m p fib ≡ header bsn r bib k h fib) e
    (λ h. ap (λ (z : m < 2 ^ 12). header bsn r bib m z fib) (below_is_prop m (2 ^ 12) p h)) q

-- headers with the same fields are the same
pub same_header : (a b : Header) → a.bsn ≡ b.bsn → a.bib ≡ b.bib → a.fsn ≡ b.fsn → a.fib ≡ b.fib → a ≡ b
unfolding header
same_header a b e f g h =
    same_bsn a.bsn b.bsn a.bsn_in_range b.bsn_in_range a.bib a.fsn a.fsn_in_range a.fib e
    ∙ ap (λ (z : Bool). header b.bsn b.bsn_in_range z a.fsn a.fsn_in_range a.fib) f
    ∙ same_fsn a.fsn b.fsn a.fsn_in_range b.fsn_in_range b.bsn b.bsn_in_range b.bib a.fib g
    ∙ ap (λ (z : Bool). header b.bsn b.bsn_in_range b.bib b.fsn b.fsn_in_range z) h

-- NARROW: the header of two octets

header_in_text : (x y : ℕ) → x < 256 → y < 256 → header_text (header_in x y) ≡ x ∷ y ∷ []
header_in_text x y p q = ap (λ (n : ℕ). n ∷ sequence_octet (y % 128) (nat_le 128 y) ∷ []) (whole x (nat_le 128 x) refl p) ∙ ap (λ (n : ℕ). x ∷ n ∷ []) (whole y (nat_le 128 y) refl q)
  where
    whole : (n : ℕ) (b : Bool) → nat_le 128 n ≡ b → n < 256 → sequence_octet (n % 128) (nat_le 128 n) ≡ n
    whole n true e p = let h : 128 ≤ n = grind (arith, nat_tests) in rw e (omega (arith, h))
    whole n false e p = let h : n < 128 = grind (arith, nat_tests) in rw e (omega (arith, h))

number_in : (n : ℕ) (b : Bool) → n < 128 → sequence_octet n b % 128 ≡ n
number_in n true p = omega arith
number_in n false p = omega arith

indicator_in : (n : ℕ) (b : Bool) → n < 128 → nat_le 128 (sequence_octet n b) ≡ b
indicator_in n true p = grind (arith, nat_tests)
indicator_in n false p = grind (arith, nat_tests)

header_again : (h : Header) → IsHeadOf Narrow h → header_in (sequence_octet h.bsn h.bib) (sequence_octet h.fsn h.fib) ≡ h
header_again h is =
    same_header (header_in (sequence_octet h.bsn h.bib) (sequence_octet h.fsn h.fib)) h
    (number_in h.bsn h.bib is.0) (indicator_in h.bsn h.bib is.0) (number_in h.fsn h.fib is.1) (indicator_in h.fsn h.fib is.1)

-- WIDE: the header and the form of 32 bits

module _ (bsn fsn form : ℕ) (low : bsn < 4096) (low' : fsn < 4096) (few : form < 64) where
  abbrev pub number : Bool → Bool → ℕ
  number bib fib = bsn + (if bib then 0x1000 else 0) + 0x2000 * fsn + (if fib then 0x2000000 else 0) + 0x4000000 * form

  bsn_is : (bib fib : Bool) → number bib fib % 4096 ≡ bsn
  bsn_is true true = omega arith
  bsn_is true false = omega arith
  bsn_is false true = omega arith
  bsn_is false false = omega arith

  fsn_is : (bib fib : Bool) → number bib fib / 0x2000 % 4096 ≡ fsn
  fsn_is true true = omega arith
  fsn_is true false = omega arith
  fsn_is false true = omega arith
  fsn_is false false = omega arith

  form_is : (bib fib : Bool) → number bib fib / 0x4000000 ≡ form
  form_is true true = omega arith
  form_is true false = omega arith
  form_is false true = omega arith
  form_is false false = omega arith

  small : (bib fib : Bool) → number bib fib < 0x100000000
  small true true = omega arith
  small true false = omega arith
  small false true = omega arith
  small false false = omega arith

  bib_is : (bib fib : Bool) → (number bib fib / 0x1000 % 2 == 1) ≡ bib
  bib_is true true = let e : number true true / 0x1000 % 2 ≡ 1 = omega arith in rw e refl
  bib_is true false = let e : number true false / 0x1000 % 2 ≡ 1 = omega arith in rw e refl
  bib_is false true = let e : number false true / 0x1000 % 2 ≡ 0 = omega arith in rw e refl
  bib_is false false = let e : number false false / 0x1000 % 2 ≡ 0 = omega arith in rw e refl

  fib_is : (bib fib : Bool) → (number bib fib / 0x2000000 % 2 == 1) ≡ fib
  fib_is true true = let e : number true true / 0x2000000 % 2 ≡ 1 = omega arith in rw e refl
  fib_is true false = let e : number true false / 0x2000000 % 2 ≡ 0 = omega arith in rw e refl
  fib_is false true = let e : number false true / 0x2000000 % 2 ≡ 1 = omega arith in rw e refl
  fib_is false false = let e : number false false / 0x2000000 % 2 ≡ 0 = omega arith in rw e refl

module _ (h : Header) (form : ℕ) (few : form < 64) where
  pub wide_again : wide_header (wide_number h form) ≡ h
  wide_again =
      same_header (wide_header (wide_number h form)) h
      (bsn_is h.bsn h.fsn form h.bsn_in_range h.fsn_in_range few h.bib h.fib)
      (bib_is h.bsn h.fsn form h.bsn_in_range h.fsn_in_range few h.bib h.fib)
      (fsn_is h.bsn h.fsn form h.bsn_in_range h.fsn_in_range few h.bib h.fib)
      (fib_is h.bsn h.fsn form h.bsn_in_range h.fsn_in_range few h.bib h.fib)

  pub form_again : wide_form (wide_number h form) ≡ form
  form_again = form_is h.bsn h.fsn form h.bsn_in_range h.fsn_in_range few h.bib h.fib

  pub wide_small : wide_number h form < 2 ^ 32
  wide_small = small h.bsn h.fsn form h.bsn_in_range h.fsn_in_range few h.bib h.fib

-- 32 bits in four octets, and back
in_four : (a b c d : ℕ) → a < 256 → b < 256 → c < 256 → d < 256 → four_octets (a + 0x100 * b + 0x10000 * c + 0x1000000 * d) ≡ a ∷ b ∷ c ∷ d ∷ []
in_four a b c d p q r s =
    let n = a + 0x100 * b + 0x10000 * c + 0x1000000 * d in
    ap (λ (x : ℕ). x ∷ n / 0x100 % 256 ∷ n / 0x10000 % 256 ∷ n / 0x1000000 % 256 ∷ []) (omega arith)
    ∙ ap (λ (x : ℕ). a ∷ x ∷ n / 0x10000 % 256 ∷ n / 0x1000000 % 256 ∷ []) (omega arith)
    ∙ ap (λ (x : ℕ). a ∷ b ∷ x ∷ n / 0x1000000 % 256 ∷ []) (omega arith)
    ∙ ap (λ (x : ℕ). a ∷ b ∷ c ∷ x ∷ []) (omega arith)

of_four : (n : ℕ) → n < 0x100000000 → n % 256 + 0x100 * (n / 0x100 % 256) + 0x10000 * (n / 0x10000 % 256) + 0x1000000 * (n / 0x1000000 % 256) ≡ n
of_four n p = omega arith

not_one : (k : ℕ) → (k % 2 == 1) ≡ false → k % 2 ≡ 0
not_one k e = grind (arith, nat_tests)

-- the number of the header read is the number
whole_by : (n : ℕ) (bib fib : Bool) → (n / 0x1000 % 2 == 1) ≡ bib → (n / 0x2000000 % 2 == 1) ≡ fib → n % 4096 + (if bib then 0x1000 else 0) + 0x2000 * (n / 0x2000 % 4096) + (if fib then 0x2000000 else 0) + 0x4000000 * (n / 0x4000000) ≡ n
whole_by n true true e f = let b : n / 0x1000 % 2 ≡ 1 = grind (arith, nat_tests) in let c : n / 0x2000000 % 2 ≡ 1 = grind (arith, nat_tests) in omega (arith, b, c)
whole_by n true false e f = let b : n / 0x1000 % 2 ≡ 1 = grind (arith, nat_tests) in let c : n / 0x2000000 % 2 ≡ 0 = not_one (n / 0x2000000) f in omega (arith, b, c)
whole_by n false true e f = let b : n / 0x1000 % 2 ≡ 0 = not_one (n / 0x1000) e in let c : n / 0x2000000 % 2 ≡ 1 = grind (arith, nat_tests) in omega (arith, b, c)
whole_by n false false e f = let b : n / 0x1000 % 2 ≡ 0 = not_one (n / 0x1000) e in let c : n / 0x2000000 % 2 ≡ 0 = not_one (n / 0x2000000) f in omega (arith, b, c)

-- BOTH

pub li_small : (body : List ℕ) → length_indicator body < 64
li_small body = omega arith

-- the status of a status' number
status_again : (status : Status) → status_of (status_number status) ≡ status
status_again Status.OutOfAlignment = refl
status_again Status.Normal = refl
status_again Status.Emergency = refl
status_again Status.OutOfService = refl
status_again Status.ProcessorOutage = refl
status_again Status.Busy = refl
status_again Status.Unassigned6 = refl
status_again Status.Unassigned7 = refl

-- a unit of this body is read from it
body_read : (unit : SignalUnit) (field : List ℕ) → IsBodyOf unit field → unit_with (head_of unit) field ≡ unit
body_read (Fisu h) field is = rw is refl
body_read (Lssu h status) [] is = absurd (omega (arith, is.0))
body_read (Lssu h status) (x ∷ []) is = rw (is.2, status_again status) refl
body_read (Lssu h status) (x ∷ y ∷ []) is = rw (is.2, status_again status) refl
body_read (Lssu h status) (x ∷ y ∷ z ∷ field) is = absurd (omega (arith, is.1))
body_read (Msu h body) (x ∷ y ∷ z ∷ field) is = rw (sym is.0) refl
body_read (Msu h body) [] is = absurd (omega (arith, is.1))
body_read (Msu h body) (x ∷ []) is = absurd (omega (arith, is.1))
body_read (Msu h body) (x ∷ y ∷ []) is = absurd (omega (arith, is.1))

status_number_of : (n : ℕ) → n < 8 → status_number (status_of n) ≡ n
status_number_of zero p = refl
status_number_of (suc zero) p = refl
status_number_of (suc (suc zero)) p = refl
status_number_of (suc (suc (suc zero))) p = refl
status_number_of (suc (suc (suc (suc zero)))) p = refl
status_number_of (suc (suc (suc (suc (suc zero))))) p = refl
status_number_of (suc (suc (suc (suc (suc (suc zero)))))) p = refl
status_number_of (suc (suc (suc (suc (suc (suc (suc zero))))))) p = refl
status_number_of (suc (suc (suc (suc (suc (suc (suc (suc n)))))))) p = absurd (omega arith)

-- and the unit read from a body has it
has_body : (h : Header) (field : List ℕ) → IsBodyOf (unit_with h field) field
has_body h [] = refl
has_body h (x ∷ []) = (omega arith, omega arith, sym (status_number_of (x % 8) (omega arith)))
has_body h (x ∷ y ∷ []) = (omega arith, omega arith, sym (status_number_of (x % 8) (omega arith)))
has_body h (x ∷ y ∷ z ∷ field) = (refl, omega arith)

has_head : (h : Header) (field : List ℕ) → head_of (unit_with h field) ≡ h
has_head h [] = refl
has_head h (x ∷ []) = refl
has_head h (x ∷ y ∷ []) = refl
has_head h (x ∷ y ∷ z ∷ field) = refl

-- what the grammar read from the left finds of a header and a body
pub record Behind (profile : Profile) (indicator : ℕ) (h : Header) (body : List ℕ) (unit : SignalUnit) : Type 0 where
  pub not_long : length body ≤ longest_body profile
  pub says : indicator ≡ length_indicator body
  pub is : unit_with h body ≡ unit

behind : (profile : Profile) (n : ℕ) (h : Header) (body : List ℕ) (unit : SignalUnit) → unit_if profile n h body ≡ Some unit → Behind profile n h body unit
behind profile n h body unit e = go (nat_le (length body) (longest_body profile)) (n == length_indicator body) refl refl e
  where
    go : (p q : Bool) → nat_le (length body) (longest_body profile) ≡ p → (n == length_indicator body) ≡ q → (if p then (if q then Some (unit_with h body) else None) else None) ≡ Some unit → Behind profile n h body unit
    go true true a b f = record { not_long = grind (arith, nat_tests); says = grind (arith, nat_tests); is = same_Some _ _ f }
    go true false a b f = absurd (none-some unit f)
    go false q a b f = absurd (none-some unit f)

found_behind : (profile : Profile) (n : ℕ) (h : Header) (body : List ℕ) → length body ≤ longest_body profile → n ≡ length_indicator body → unit_if profile n h body ≡ Some (unit_with h body)
found_behind profile n h body short says =
    let a : nat_le (length body) (longest_body profile) ≡ true = grind (arith, nat_tests) in
    let b : (n == length_indicator body) ≡ true = grind (arith, nat_tests) in
    rw (a, b) refl

-- THE GRAMMAR READ FROM THE LEFT gives the unit that octets stand for
narrow_is : (unit : SignalUnit) (spare : ℕ) (body : List ℕ) → IsHeadOf Narrow (head_of unit) → IsBodyOf unit body → length body ≤ 273 → unit_of Narrow (octets_with Narrow spare (head_of unit) body) ≡ Some unit
narrow_is unit spare body head is short =
    let third : (length_indicator body + 64 * spare) % 64 ≡ length_indicator body = omega arith in
    ap (λ (h : Header). unit_if Narrow ((length_indicator body + 64 * spare) % 64) h body) (header_again (head_of unit) head)
    ∙ found_behind Narrow ((length_indicator body + 64 * spare) % 64) (head_of unit) body short third
    ∙ ap Some (body_read unit body is)

wide_is : (unit : SignalUnit) (body : List ℕ) → IsBodyOf unit body → length body ≤ 272 → unit_of Wide (octets_with Wide 0 (head_of unit) body) ≡ Some unit
wide_is unit body is short =
    let h = head_of unit in
    let n = wide_number h (length_indicator body) in
    let few = li_small body in
    let again = of_four n (wide_small h (length_indicator body) few) in
    ap (λ (m : ℕ). unit_if Wide (wide_form m) (wide_header m) body) again
    ∙ ap (λ (k : Header). unit_if Wide (wide_form n) k body) (wide_again h (length_indicator body) few)
    ∙ found_behind Wide (wide_form n) h body short (form_again h (length_indicator body) few)
    ∙ ap Some (body_read unit body is)

pub stands_is : (profile : Profile) (octets : List ℕ) (unit : SignalUnit) → StandsFor profile octets unit → unit_of profile octets ≡ Some unit
stands_is Narrow octets unit stands = ap (unit_of Narrow) stands.octets_are ∙ narrow_is unit stands.spare stands.body stands.head_is stands.body_is stands.not_long
stands_is Wide octets unit stands = ap (unit_of Wide) stands.octets_are ∙ wide_is unit stands.body stands.body_is stands.not_long

-- octets stand for one unit at most
pub same_unit : (profile : Profile) (octets : List ℕ) (u v : SignalUnit) → StandsFor profile octets u → StandsFor profile octets v → u ≡ v
same_unit profile octets u v p q = same_Some u v (sym (stands_is profile octets u p) ∙ stands_is profile octets v q)

-- AND BACK: octets from which a unit is read stand for it
abbrev pub EachOctet : List ℕ → Type 0
EachOctet octets = (i : ℕ) → get_or octets i 0 < 256

narrow_stands : (x y z : ℕ) (body : List ℕ) (unit : SignalUnit) → x < 256 → y < 256 → z < 256 → unit_of Narrow (x ∷ y ∷ z ∷ body) ≡ Some unit → StandsFor Narrow (x ∷ y ∷ z ∷ body) unit
narrow_stands x y z body unit p q r e =
    let h = header_in x y in
    let b = behind Narrow (z % 64) h body unit e in
    let head : head_of unit ≡ h = ap head_of (sym b.is) ∙ has_head h body in
    let third : length_indicator body + 64 * (z / 64) ≡ z = omega (arith, b.says) in record {
      spare = z / 64;
      body = body;
      in_range = omega arith;
      head_is = subst (IsHeadOf Narrow) (sym head) (omega arith, omega arith);
      body_is = subst (λ (u : SignalUnit). IsBodyOf u body) b.is (has_body h body);
      not_long = b.not_long;
      octets_are = sym (ap (λ (k : Header). octets_with Narrow (z / 64) k body) head
          ∙ ap (λ (m : ℕ). header_text h ++ m ∷ body) third
          ∙ ap (λ (xs : List ℕ). xs ++ z ∷ body) (header_in_text x y p q));
    }

wide_stands : (a b c d : ℕ) (body : List ℕ) (unit : SignalUnit) → a < 256 → b < 256 → c < 256 → d < 256 → unit_of Wide (a ∷ b ∷ c ∷ d ∷ body) ≡ Some unit → StandsFor Wide (a ∷ b ∷ c ∷ d ∷ body) unit
wide_stands a b c d body unit p q r s e =
    let n = a + 0x100 * b + 0x10000 * c + 0x1000000 * d in
    let h = wide_header n in
    let k = behind Wide (wide_form n) h body unit e in
    let head : head_of unit ≡ h = ap head_of (sym k.is) ∙ has_head h body in
    let number : wide_number h (length_indicator body) ≡ n = ap (wide_number h) (sym k.says) ∙ whole_by n (n / 0x1000 % 2 == 1) (n / 0x2000000 % 2 == 1) refl refl in record {
      spare = 0;
      body = body;
      in_range = omega arith;
      head_is = subst (IsHeadOf Wide) (sym head) (omega arith, omega arith);
      body_is = subst (λ (u : SignalUnit). IsBodyOf u body) k.is (has_body h body);
      not_long = k.not_long;
      octets_are = sym (ap (λ (m : Header). octets_with Wide 0 m body) head
          ∙ ap (λ (m : ℕ). four_octets m ++ body) number
          ∙ ap (λ (xs : List ℕ). xs ++ body) (in_four a b c d p q r s));
    }

read_stands : (profile : Profile) (octets : List ℕ) (unit : SignalUnit) → EachOctet octets → unit_of profile octets ≡ Some unit → StandsFor profile octets unit
read_stands Narrow (x ∷ y ∷ z ∷ body) unit each e = narrow_stands x y z body unit (each 0) (each 1) (each 2) e
read_stands Narrow [] unit each e = absurd (none-some unit e)
read_stands Narrow (x ∷ []) unit each e = absurd (none-some unit e)
read_stands Narrow (x ∷ y ∷ []) unit each e = absurd (none-some unit e)
read_stands Wide (a ∷ b ∷ c ∷ d ∷ body) unit each e = wide_stands a b c d body unit (each 0) (each 1) (each 2) (each 3) e
read_stands Wide [] unit each e = absurd (none-some unit e)
read_stands Wide (x ∷ []) unit each e = absurd (none-some unit e)
read_stands Wide (x ∷ y ∷ []) unit each e = absurd (none-some unit e)
read_stands Wide (x ∷ y ∷ z ∷ []) unit each e = absurd (none-some unit e)

-- what a call that reads by the grammar finds
pub found_stands : (profile : Profile) (octets : List ℕ) (result : Result SignalUnit UnitFault) → EachOctet octets → result_ok result ≡ unit_of profile octets → IfOk result (λ unit. StandsFor profile octets unit)
found_stands profile octets (Ok unit) each e = read_stands profile octets unit each (sym e)
found_stands profile octets (Err fault) each e = tt

pub only_stands : (profile : Profile) (octets : List ℕ) (result : Result SignalUnit UnitFault) (unit : SignalUnit) → result_ok result ≡ unit_of profile octets → StandsFor profile octets unit → result ≡ Ok unit
only_stands profile octets (Ok u) unit e stands = ap Ok (same_Some u unit (e ∙ stands_is profile octets unit stands))
only_stands profile octets (Err fault) unit e stands = absurd (none-some unit (e ∙ stands_is profile octets unit stands))
