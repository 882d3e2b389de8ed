-- The grammar read from the left finds the order that a body stands for.
use Rattle.std.proofs.Common.{refl, arith, ◌≡◌, ◌∙◌, ap, subst, sym, ◌<◌, ◌^◌, ◌⊎◌, inl, inr, ℕ, ◌+◌, ◌*◌, ◌/◌, ◌%◌, ◌==◌, Bool, true, false, cond, Option, Some, None, Result, Ok, Err, IfOk, List, [], ◌∷◌, ◌++◌, get_or, eq-eqb, All, zero, suc}
use Rattle.std.proofs.lemmas.Bool.Decides.{nat_tests}
use Rattle.std.proofs.lemmas.Option.{same_Some, none-some, cond_some}
use Rattle.std.specs.Result.{result_ok}
use Rattle.l2_units.specs.declared.profile.Profile.{Profile}
use Rattle.l2_units.specs.declared.profile.Profile.TheVariants.{Narrow, Wide}
use Rattle.l3_orders.specs.declared.order.Order.{Order}
use Rattle.l3_orders.specs.declared.reading.OrderFault.{OrderFault}
use Rattle.l3_orders.specs.declared.order.Order.TheVariants.{Coo, Coa, Cbd, Cba, Eco, Eca}
use Rattle.l2_units.specs.Profile.{fsn_count}
use Rattle.l3_orders.specs.Grammar.{label_number, label, heading_of, link_of, spares, number_with, content_with, IsOrder, StandsFor, is_numbered, bare_order, numbered_order, coded_order, order_with, order_of, first_of, order_any, IsOneGrammar}

-- the SLC stands in the high half of the label's last octet
pub slc_in : (dpc opc slc : ℕ) → dpc < 2 ^ 14 → opc < 2 ^ 14 → slc < 16 → label_number dpc opc slc / 0x1000000 % 256 / 16 ≡ slc
slc_in dpc opc slc p q r = omega arith

is_management : (sio : ℕ) → sio % 16 ≡ 0 → (sio % 16 == 0) ≡ true
is_management sio e = eq-eqb (sio % 16) 0 e

-- the FSN stands below the spare bits
number_in : (number spare : ℕ) → number < 128 → (number + 128 * spare) % 128 ≡ number
number_in number spare p = omega arith

wide_in : (number spare : ℕ) → number < 4096 → ((number + 4096 * spare) % 256 + 256 * ((number + 4096 * spare) / 256)) % 4096 ≡ number
wide_in number spare p = omega arith

-- the grammar read from the left gives the order that a body stands for
pub stands_is : (profile : Profile) (octets : List ℕ) (order : Order) → StandsFor profile octets order → order_of profile octets ≡ Some order
stands_is Narrow octets (Coo link number) s =
    rw (s.is, is_management s.sio s.envelope.management, slc_in s.dpc s.opc link s.envelope.to s.envelope.from s.fits.0, number_in number s.spare s.fits.1) refl
stands_is Narrow octets (Coa link number) s =
    rw (s.is, is_management s.sio s.envelope.management, slc_in s.dpc s.opc link s.envelope.to s.envelope.from s.fits.0, number_in number s.spare s.fits.1) refl
stands_is Wide octets (Coo link number) s =
    rw (s.is, is_management s.sio s.envelope.management, slc_in s.dpc s.opc link s.envelope.to s.envelope.from s.fits.0, wide_in number s.spare s.fits.1) refl
stands_is Wide octets (Coa link number) s =
    rw (s.is, is_management s.sio s.envelope.management, slc_in s.dpc s.opc link s.envelope.to s.envelope.from s.fits.0, wide_in number s.spare s.fits.1) refl
stands_is Narrow octets (Cbd link code) s =
    rw (s.is, is_management s.sio s.envelope.management, slc_in s.dpc s.opc link s.envelope.to s.envelope.from s.fits.0) refl
stands_is Narrow octets (Cba link code) s =
    rw (s.is, is_management s.sio s.envelope.management, slc_in s.dpc s.opc link s.envelope.to s.envelope.from s.fits.0) refl
stands_is Wide octets (Cbd link code) s =
    rw (s.is, is_management s.sio s.envelope.management, slc_in s.dpc s.opc link s.envelope.to s.envelope.from s.fits.0) refl
stands_is Wide octets (Cba link code) s =
    rw (s.is, is_management s.sio s.envelope.management, slc_in s.dpc s.opc link s.envelope.to s.envelope.from s.fits.0) refl
stands_is profile octets (Eco link) s =
    rw (s.is, is_management s.sio s.envelope.management, slc_in s.dpc s.opc link s.envelope.to s.envelope.from s.fits) refl
stands_is profile octets (Eca link) s =
    rw (s.is, is_management s.sio s.envelope.management, slc_in s.dpc s.opc link s.envelope.to s.envelope.from s.fits) refl

-- Which order a body stands for, from its octets.

-- the label of the point codes and the SLC that four octets hold is those octets
pub label_back : (a b c d : ℕ) → a < 256 → b < 256 → c < 256 → d < 256 → (dpc opc : ℕ) → (a + 256 * b + 65536 * c + 16777216 * d) % 16384 ≡ dpc → (a + 256 * b + 65536 * c + 16777216 * d) / 16384 % 16384 ≡ opc → label dpc opc (d / 16) ≡ a ∷ b ∷ c ∷ d ∷ []
label_back a b c d p q r s dpc opc to from =
    let n = a + 256 * b + 65536 * c + 16777216 * d in
    let whole : label_number dpc opc (d / 16) ≡ n = omega (arith, to, from) in
    rw whole (ap (λ (x : ℕ). x ∷ n / 256 % 256 ∷ n / 65536 % 256 ∷ n / 16777216 % 256 ∷ []) (omega arith)
    ∙ ap (λ (x : ℕ). a ∷ x ∷ n / 65536 % 256 ∷ n / 16777216 % 256 ∷ []) (omega arith)
    ∙ ap (λ (x : ℕ). a ∷ b ∷ x ∷ n / 16777216 % 256 ∷ []) (omega arith)
    ∙ ap (λ (x : ℕ). a ∷ b ∷ c ∷ x ∷ []) (omega arith))

-- four octets are the label of two point codes and the SLC in the last one's high half
label_again : (a b c d : ℕ) → a < 256 → b < 256 → c < 256 → d < 256 → (dpc : ℕ) × (opc : ℕ) × (dpc < 2 ^ 14) × (opc < 2 ^ 14) × (label dpc opc (d / 16) ≡ a ∷ b ∷ c ∷ d ∷ [])
label_again a b c d p q r s =
    let n = a + 256 * b + 65536 * c + 16777216 * d in
    (n % 16384, n / 16384 % 16384, omega arith, omega arith, label_back a b c d p q r s _ _ refl refl)

-- each octet of the list is one
abbrev pub EachOctet : List ℕ → Type 0
EachOctet octets = (i : ℕ) → get_or octets i 0 < 256

-- a body with an order's link, heading code and content stands for that order
stood : (profile : Profile) (order : Order) (spare sio a b c d code : ℕ) (content : List ℕ) → EachOctet (sio ∷ a ∷ b ∷ c ∷ d ∷ code ∷ content) → IsOrder profile order → spare < spares profile → sio % 16 ≡ 0 → link_of order ≡ d / 16 → heading_of order ≡ code → content_with profile spare order ≡ content → StandsFor profile (sio ∷ a ∷ b ∷ c ∷ d ∷ code ∷ content) order
stood profile order spare sio a b c d code content each fits in_range management slc head rest =
    let found = label_again a b c d (each 1) (each 2) (each 3) (each 4) in record {
      sio = sio;
      dpc = found.0;
      opc = found.1;
      spare = spare;
      fits = fits;
      envelope = record { octet = each 0; management = management; to = found.2; from = found.3 };
      in_range = in_range;
      is = sym (
          ap (λ (x : ℕ). sio ∷ label found.0 found.1 x ++ heading_of order ∷ content_with profile spare order) slc
          ∙ ap (λ (xs : List ℕ). sio ∷ xs ++ heading_of order ∷ content_with profile spare order) found.4
          ∙ ap (λ (x : ℕ). sio ∷ a ∷ b ∷ c ∷ d ∷ x ∷ content_with profile spare order) head
          ∙ ap (λ (xs : List ℕ). sio ∷ a ∷ b ∷ c ∷ d ∷ code ∷ xs) rest);
    }

-- one test of a chain
pub tested : {A : Type 0} (b : Bool) (x y : A) (rest : Option A) → cond b (Some x) rest ≡ Some y → ((b ≡ true) × (x ≡ y)) ⊎ (rest ≡ Some y)
tested true x y rest e = inl (refl, same_Some x y e)
tested false x y rest e = inr e

cond_more : {A : Type 0} (b : Bool) (x : Option A) (y : A) → cond b x None ≡ Some y → (b ≡ true) × (x ≡ Some y)
cond_more true x y e = (refl, e)
cond_more false x y e = absurd (none-some y e)

is_code : (code n : ℕ) → (code == n) ≡ true → n ≡ code
is_code code n e = grind (arith, nat_tests)

link_fits : (d : ℕ) → d < 256 → d / 16 < 16
link_fits d p = omega arith

some_spare : (profile : Profile) → 0 < spares profile
some_spare Narrow = omega arith
some_spare Wide = omega arith

emergency : (profile : Profile) (order : Order) (sio a b c d code : ℕ) → EachOctet (sio ∷ a ∷ b ∷ c ∷ d ∷ code ∷ []) → sio % 16 ≡ 0 → bare_order (d / 16) code ≡ Some order → StandsFor profile (sio ∷ a ∷ b ∷ c ∷ d ∷ code ∷ []) order
emergency profile order sio a b c d code each management e =
    elim (tested (code == 18) (Eco (d / 16)) order _ e) [
      | inl eco ↦ subst (StandsFor profile (sio ∷ a ∷ b ∷ c ∷ d ∷ code ∷ [])) eco.1
          (stood profile (Eco (d / 16)) 0 sio a b c d code [] each (link_fits d (each 4)) (some_spare profile) management refl (is_code code 18 eco.0) refl)
      | inr more ↦
          let eca = cond_some (code == 34) (Eca (d / 16)) order more in
          subst (StandsFor profile (sio ∷ a ∷ b ∷ c ∷ d ∷ code ∷ [])) eca.1
          (stood profile (Eca (d / 16)) 0 sio a b c d code [] each (link_fits d (each 4)) (some_spare profile) management refl (is_code code 34 eca.0) refl)
    ]

-- with an FSN, whose octets these are with these spare bits
numbered : (profile : Profile) (order : Order) (spare number sio a b c d code : ℕ) (content : List ℕ) → EachOctet (sio ∷ a ∷ b ∷ c ∷ d ∷ code ∷ content) → sio % 16 ≡ 0 → spare < spares profile → number < fsn_count profile → number_with profile spare number ≡ content → numbered_order (d / 16) code number ≡ Some order → StandsFor profile (sio ∷ a ∷ b ∷ c ∷ d ∷ code ∷ content) order
numbered profile order spare number sio a b c d code content each management in_range fits is e =
    elim (tested (code == 17) (Coo (d / 16) number) order _ e) [
      | inl coo ↦ subst (StandsFor profile (sio ∷ a ∷ b ∷ c ∷ d ∷ code ∷ content)) coo.1 (stood profile (Coo (d / 16) number) spare sio a b c d code content each (link_fits d (each 4), fits) in_range management refl (is_code code 17 coo.0) is)
      | inr more ↦
          let coa = cond_some (code == 33) (Coa (d / 16) number) order more in
          subst (StandsFor profile (sio ∷ a ∷ b ∷ c ∷ d ∷ code ∷ content)) coa.1 (stood profile (Coa (d / 16) number) spare sio a b c d code content each (link_fits d (each 4), fits) in_range management refl (is_code code 33 coa.0) is)
    ]

coded : (profile : Profile) (order : Order) (sio a b c d code field : ℕ) → EachOctet (sio ∷ a ∷ b ∷ c ∷ d ∷ code ∷ field ∷ []) → sio % 16 ≡ 0 → coded_order (d / 16) code field ≡ Some order → StandsFor profile (sio ∷ a ∷ b ∷ c ∷ d ∷ code ∷ field ∷ []) order
coded profile order sio a b c d code field each management e =
    elim (tested (code == 81) (Cbd (d / 16) field) order _ e) [
      | inl cbd ↦ subst (StandsFor profile (sio ∷ a ∷ b ∷ c ∷ d ∷ code ∷ field ∷ [])) cbd.1 (stood profile (Cbd (d / 16) field) 0 sio a b c d code (field ∷ []) each (link_fits d (each 4), each 6) (some_spare profile) management refl (is_code code 81 cbd.0) refl)
      | inr more ↦
          let cba = cond_some (code == 97) (Cba (d / 16) field) order more in
          subst (StandsFor profile (sio ∷ a ∷ b ∷ c ∷ d ∷ code ∷ field ∷ [])) cba.1 (stood profile (Cba (d / 16) field) 0 sio a b c d code (field ∷ []) each (link_fits d (each 4), each 6) (some_spare profile) management refl (is_code code 97 cba.0) refl)
    ]

narrow_field : (field : ℕ) → number_with Narrow (field / 128) (field % 128) ≡ field ∷ []
narrow_field field = ap (λ (x : ℕ). x ∷ []) (omega arith)

wide_field : (low high : ℕ) → low < 256 → high < 256 → number_with Wide ((low + 256 * high) / 4096) ((low + 256 * high) % 4096) ≡ low ∷ high ∷ []
wide_field low high p q =
    let whole : (low + 256 * high) % 4096 + 4096 * ((low + 256 * high) / 4096) ≡ low + 256 * high = omega arith in
    rw whole (ap (λ (x : ℕ). x ∷ (low + 256 * high) / 256 ∷ []) (omega arith) ∙ ap (λ (x : ℕ). low ∷ x ∷ []) (omega arith))

-- one octet after the heading code: in the narrow profile an FSN or a code
narrow_one : (order : Order) (sio a b c d code field : ℕ) (n : Bool) → EachOctet (sio ∷ a ∷ b ∷ c ∷ d ∷ code ∷ field ∷ []) → sio % 16 ≡ 0 → cond n (numbered_order (d / 16) code (field % 128)) (coded_order (d / 16) code field) ≡ Some order → StandsFor Narrow (sio ∷ a ∷ b ∷ c ∷ d ∷ code ∷ field ∷ []) order
narrow_one order sio a b c d code field true each management e =
    numbered Narrow order (field / 128) (field % 128) sio a b c d code (field ∷ []) each management (few (each 6)) (omega arith) (narrow_field field) e
  where
    few : field < 256 → field / 128 < 2
    few p = omega arith
narrow_one order sio a b c d code field false each management e = coded Narrow order sio a b c d code field each management e

wide_two : (order : Order) (sio a b c d code low high : ℕ) → EachOctet (sio ∷ a ∷ b ∷ c ∷ d ∷ code ∷ low ∷ high ∷ []) → sio % 16 ≡ 0 → numbered_order (d / 16) code ((low + 256 * high) % 4096) ≡ Some order → StandsFor Wide (sio ∷ a ∷ b ∷ c ∷ d ∷ code ∷ low ∷ high ∷ []) order
wide_two order sio a b c d code low high each management e =
    numbered Wide order ((low + 256 * high) / 4096) ((low + 256 * high) % 4096) sio a b c d code (low ∷ high ∷ []) each management (few (each 6) (each 7)) (omega arith) (wide_field low high (each 6) (each 7)) e
  where
    few : low < 256 → high < 256 → (low + 256 * high) / 4096 < 16
    few p q = omega arith

-- a body from which an order is read stands for that order
with_content : (profile : Profile) (order : Order) (sio a b c d code : ℕ) (content : List ℕ) → EachOctet (sio ∷ a ∷ b ∷ c ∷ d ∷ code ∷ content) → sio % 16 ≡ 0 → order_with profile (d / 16) code content ≡ Some order → StandsFor profile (sio ∷ a ∷ b ∷ c ∷ d ∷ code ∷ content) order
with_content profile order sio a b c d code [] each management e = emergency profile order sio a b c d code each management e
with_content Narrow order sio a b c d code (field ∷ []) each management e = narrow_one order sio a b c d code field (is_numbered code) each management e
with_content Wide order sio a b c d code (field ∷ []) each management e = coded Wide order sio a b c d code field each management e
with_content Wide order sio a b c d code (low ∷ high ∷ []) each management e = wide_two order sio a b c d code low high each management e
with_content Narrow order sio a b c d code (low ∷ high ∷ []) each management e = absurd (none-some order e)
with_content profile order sio a b c d code (low ∷ high ∷ more ∷ rest) each management e = absurd (none-some order e)

pub read_stands : (profile : Profile) (octets : List ℕ) (order : Order) → EachOctet octets → order_of profile octets ≡ Some order → StandsFor profile octets order
read_stands profile (sio ∷ a ∷ b ∷ c ∷ d ∷ code ∷ content) order each e =
    let management = cond_more (sio % 16 == 0) (order_with profile (d / 16) code content) order e in
    with_content profile order sio a b c d code content each (sym (is_code (sio % 16) 0 management.0)) management.1
read_stands profile (sio ∷ a ∷ b ∷ c ∷ d ∷ []) order each e = absurd (none-some order e)
read_stands profile (sio ∷ a ∷ b ∷ c ∷ []) order each e = absurd (none-some order e)
read_stands profile (sio ∷ a ∷ b ∷ []) order each e = absurd (none-some order e)
read_stands profile (sio ∷ a ∷ []) order each e = absurd (none-some order e)
read_stands profile (sio ∷ []) order each e = absurd (none-some order e)
read_stands profile [] order each e = absurd (none-some order e)

-- what a call that reads by the grammar finds
pub found_stands : (profile : Profile) (octets : List ℕ) (result : Result Order OrderFault) → EachOctet octets → result_ok result ≡ order_of profile octets → IfOk result (λ order. StandsFor profile octets order)
found_stands profile octets (Ok order) each e = read_stands profile octets order each (sym e)
found_stands profile octets (Err fault) each e = tt

pub octet_at : (octets : List ℕ) → All (λ octet. octet < 256) octets → EachOctet octets
octet_at [] all i = omega arith
octet_at (octet ∷ rest) all zero = all 0 0 (omega arith)
octet_at (octet ∷ rest) all (suc n) = octet_at rest (λ k d below. all (suc k) d (omega (arith, below))) n

pub one_grammar : IsOneGrammar
one_grammar profile octets order all = (λ is. read_stands profile octets order (octet_at octets all) is, λ stands. stands_is profile octets order stands)

-- A BODY IS ONE ORDER AT MOST, whichever the profile
one_field : (link code field : ℕ) (order : Order) → coded_order link code field ≡ Some order → is_numbered code ≡ false
one_field link code field order e = grind (arith, nat_tests)

wide_field_any : (m n : Bool) (x y : Option Order) (order : Order) → n ≡ false → cond m y None ≡ Some order → first_of (cond m (cond n x y) None) (cond m y None) ≡ Some order
wide_field_any true true x y order f e = absurd (let no : true ≡ false = f in cc)
wide_field_any true false x y order f e = rw e refl
wide_field_any false n x y order f e = absurd (none-some order e)

none_first : (m : Bool) (y : Option Order) → first_of (cond m None None) y ≡ y
none_first true y = refl
none_first false y = refl

pub any_of : (profile : Profile) (octets : List ℕ) (order : Order) → order_of profile octets ≡ Some order → order_any octets ≡ Some order
any_of Narrow octets order e = rw e refl
any_of Wide (sio ∷ a ∷ b ∷ c ∷ d ∷ code ∷ []) order e = rw e refl
any_of Wide (sio ∷ a ∷ b ∷ c ∷ d ∷ code ∷ field ∷ []) order e =
    let management = cond_more (sio % 16 == 0) (coded_order (d / 16) code field) order e in
    wide_field_any (sio % 16 == 0) (is_numbered code) _ _ order (one_field (d / 16) code field order management.1) e
any_of Wide (sio ∷ a ∷ b ∷ c ∷ d ∷ code ∷ low ∷ high ∷ []) order e = none_first (sio % 16 == 0) _ ∙ e
any_of Wide (sio ∷ a ∷ b ∷ c ∷ d ∷ code ∷ low ∷ high ∷ more ∷ rest) order e = none_first (sio % 16 == 0) _ ∙ e
any_of Wide (sio ∷ a ∷ b ∷ c ∷ d ∷ []) order e = absurd (none-some order e)
any_of Wide (sio ∷ a ∷ b ∷ c ∷ []) order e = absurd (none-some order e)
any_of Wide (sio ∷ a ∷ b ∷ []) order e = absurd (none-some order e)
any_of Wide (sio ∷ a ∷ []) order e = absurd (none-some order e)
any_of Wide (sio ∷ []) order e = absurd (none-some order e)
any_of Wide [] order e = absurd (none-some order e)
