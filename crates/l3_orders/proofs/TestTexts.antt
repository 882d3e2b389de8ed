-- The test that is found in a body is the one that the body stands for.
use Rattle.std.proofs.Common.{refl, arith, ◌≡◌, ◌∙◌, ap, subst, sym, ◌<◌, ◌≤◌, ◌^◌, inl, inr, ℕ, ◌+◌, ◌*◌, ◌/◌, ◌%◌, ◌==◌, ◌&&◌, Bool, true, false, cond, Option, Some, None, List, [], ◌∷◌, ◌++◌, length, drop, slice_index, nat_lt, bytes_eq, eq-eqb}
use Rattle.std.proofs.lemmas.Bool.{and_parts, and_from, eqb-true, ltb-true, lt-ltb, false_from_ne_true}
use Rattle.std.proofs.lemmas.Option.{same_Some, cond_some}
use Rattle.std.proofs.lemmas.Slice.Eq.{bytes_eq-Decides}
use Rattle.l3_orders.proofs.Texts.{EachOctet, label_back, octet_at, slc_in, tested}
use Rattle.l3_orders.specs.Grammar.{label_number}
use Rattle.l3_orders.specs.TestFault.{kind_with, label_in}
use Rattle.l3_orders.specs.Tests.{IsOneTestGrammar, IsTest, IsTheTextOfTest, StandsForTest, is_between, is_text_of, test_at, test_heading, test_of, test_text, test_text_with}
use Rattle.l3_orders.specs.declared.link_test.LinkTest.{LinkTest}
use Rattle.l3_orders.specs.declared.link_test.TestKind.{TestKind}
use Rattle.l3_orders.specs.declared.link_test.TestKind.TheVariants.{Message, Acknowledgement}

-- seven tests at once
seven : (a b c d e f g : Bool) → (a && b && c && d && e && f && g) ≡ true → (a ≡ true) × (b ≡ true) × (c ≡ true) × (d ≡ true) × (e ≡ true) × (f ≡ true) × (g ≡ true)
seven a b c d e f g all =
    let p = and_parts _ g all in
    let q = and_parts _ f p.0 in
    let r = and_parts _ e q.0 in
    let s = and_parts _ d r.0 in
    let t = and_parts _ c s.0 in
    let u = and_parts a b t.0 in
    (u.0, u.1, t.1, s.1, r.1, q.1, p.1)

all_seven : (a b c d e f g : Bool) → a ≡ true → b ≡ true → c ≡ true → d ≡ true → e ≡ true → f ≡ true → g ≡ true → (a && b && c && d && e && f && g) ≡ true
all_seven a b c d e f g p q r s t u v = rw (p, q, r, s, t, u, v) refl

-- what a body whose text a test is has
is_parts : (opc dpc : ℕ) (octets : List ℕ) (test : LinkTest) → is_text_of opc dpc octets test ≡ true → (slice_index octets 0 % 16 ≡ 1) × (opc < 2 ^ 14) × (dpc < 2 ^ 14) × IsTest test × (octets ≡ test_text_with (slice_index octets 6 % 16) test (slice_index octets 0) opc dpc)
is_parts opc dpc octets test e =
    let is = seven (slice_index octets 0 % 16 == 1) (nat_lt opc 0x4000) (nat_lt dpc 0x4000) (nat_lt test.link 16) (nat_lt 0 (length test.pattern.items)) (nat_lt (length test.pattern.items) 16) (bytes_eq octets (test_text_with (slice_index octets 6 % 16) test (slice_index octets 0) opc dpc)) e in
    (eqb-true _ _ is.0, ltb-true _ _ is.1, ltb-true _ _ is.2, record { link = ltb-true _ _ is.3; some = ltb-true _ _ is.4; most = few (length test.pattern.items) (ltb-true _ _ is.5) }, (bytes_eq-Decides _ _).0 is.6)
  where
    few : (n : ℕ) → n < 16 → n ≤ 15
    few n p = omega arith

-- a body whose text a test is stands for it
text_stands : (opc dpc : ℕ) (octets : List ℕ) (test : LinkTest) → slice_index octets 0 < 256 → is_text_of opc dpc octets test ≡ true → StandsForTest opc dpc octets test
text_stands opc dpc octets test first e =
    let is = is_parts opc dpc octets test e in record {
      sio = slice_index octets 0;
      spare = slice_index octets 6 % 16;
      fits = is.3;
      octet = first;
      testing = is.0;
      to = is.1;
      from = is.2;
      in_range = omega arith;
      is = is.4;
    }

pub found_test : (opc dpc : ℕ) (octets : List ℕ) (test : LinkTest) → slice_index octets 0 < 256 → test_of opc dpc octets ≡ Some test → StandsForTest opc dpc octets test
found_test opc dpc octets test first e =
    elim (tested (is_text_of opc dpc octets (test_at Message octets)) (test_at Message octets) test _ e) [
      | inl message ↦ subst (StandsForTest opc dpc octets) message.1 (text_stands opc dpc octets (test_at Message octets) first message.0)
      | inr more ↦
          let answer = cond_some (is_text_of opc dpc octets (test_at Acknowledgement octets)) (test_at Acknowledgement octets) test more in
          subst (StandsForTest opc dpc octets) answer.1 (text_stands opc dpc octets (test_at Acknowledgement octets) first answer.0)
    ]

-- the length stands above the spare bits
spare_in : (spare n : ℕ) → spare < 16 → (spare + 16 * n) % 16 ≡ spare
spare_in spare n p = omega arith

-- a test's text is its text
own_text : (opc dpc : ℕ) (test : LinkTest) (sio spare : ℕ) → IsTest test → sio % 16 ≡ 1 → opc < 2 ^ 14 → dpc < 2 ^ 14 → spare < 16 → is_text_of opc dpc (test_text_with spare test sio opc dpc) test ≡ true
own_text opc dpc test sio spare fits testing to from in_range =
    all_seven _ _ _ _ _ _ _ (eq-eqb _ _ testing) (lt-ltb _ _ to) (lt-ltb _ _ from) (lt-ltb _ _ fits.link) (lt-ltb _ _ fits.some)
    (lt-ltb _ _ (few fits.most))
    ((bytes_eq-Decides _ _).1 (ap (λ (x : ℕ). test_text_with x test sio opc dpc) (sym (spare_in spare (length test.pattern.items) in_range))))
  where
    few : length test.pattern.items ≤ 15 → length test.pattern.items < 16
    few p = omega arith

first_one : (b : Bool) (x y : LinkTest) (rest : Option LinkTest) → b ≡ true → x ≡ y → cond b (Some x) rest ≡ Some y
first_one true x y rest e f = ap (λ (z : LinkTest). Some z) f
first_one false x y rest e f = absurd (let no : false ≡ true = e in cc)

second_one : (m b : Bool) (x y z : LinkTest) → m ≡ false → b ≡ true → y ≡ z → cond m (Some x) (cond b (Some y) None) ≡ Some z
second_one false b x y z e f g = first_one b y z None f g
second_one true b x y z e f g = absurd (let no : true ≡ false = e in cc)

no_one : (m b : Bool) (x y : LinkTest) → m ≡ false → b ≡ false → cond m (Some x) (cond b (Some y) None) ≡ None
no_one m b x y e f = rw (e, f) refl

-- the test of the parts of a text
same_at : (opc dpc : ℕ) (kind : TestKind) (test : LinkTest) (sio spare : ℕ) → kind ≡ test.kind → IsTest test → opc < 2 ^ 14 → dpc < 2 ^ 14 → test_at kind (test_text_with spare test sio opc dpc) ≡ test
same_at opc dpc kind test sio spare same fits to from =
    ap (λ (k : TestKind). test_at k (test_text_with spare test sio opc dpc)) same
    ∙ ap (λ (x : ℕ). record { kind = test.kind; link = x; pattern = test.pattern }) (slc_in opc dpc test.link to from fits.link)

-- SLTM isn't SLTA
not_message : (opc dpc : ℕ) (octets : List ℕ) → slice_index octets 5 ≡ 33 → is_text_of opc dpc octets (test_at Message octets) ≡ false
not_message opc dpc octets code =
    false_from_ne_true _ (λ e.
    let other : slice_index octets 5 ≡ 17 = ap (λ (xs : List ℕ). slice_index xs 5) (is_parts opc dpc octets (test_at Message octets) e).4 in
    omega (arith, code, other))

of_text : (opc dpc : ℕ) (kind : TestKind) (test : LinkTest) (sio spare : ℕ) → test.kind ≡ kind → IsTest test → sio % 16 ≡ 1 → opc < 2 ^ 14 → dpc < 2 ^ 14 → spare < 16 → test_of opc dpc (test_text_with spare test sio opc dpc) ≡ Some test
of_text opc dpc Message test sio spare same fits testing to from in_range =
    let at = same_at opc dpc Message test sio spare (sym same) fits to from in
    first_one _ _ test _ (subst (λ (t : LinkTest). is_text_of opc dpc (test_text_with spare test sio opc dpc) t ≡ true) (sym at) (own_text opc dpc test sio spare fits testing to from in_range)) at
of_text opc dpc Acknowledgement test sio spare same fits testing to from in_range =
    let at = same_at opc dpc Acknowledgement test sio spare (sym same) fits to from in
    second_one _ _ _ _ test
    (not_message opc dpc (test_text_with spare test sio opc dpc) (ap (λ (k : TestKind). test_heading k) same))
    (subst (λ (t : LinkTest). is_text_of opc dpc (test_text_with spare test sio opc dpc) t ≡ true) (sym at) (own_text opc dpc test sio spare fits testing to from in_range)) at

pub stands_test : (opc dpc : ℕ) (octets : List ℕ) (test : LinkTest) → StandsForTest opc dpc octets test → test_of opc dpc octets ≡ Some test
stands_test opc dpc octets test s =
    subst (λ (xs : List ℕ). test_of opc dpc xs ≡ Some test) (sym s.is) (of_text opc dpc test.kind test s.sio s.spare refl s.fits s.testing s.to s.from s.in_range)

pub one_test_grammar : IsOneTestGrammar
one_test_grammar opc dpc octets test all = (found_test opc dpc octets test (octet_at octets all 0), stands_test opc dpc octets test)

-- what is sent of a test
pub sent_stands : (test : LinkTest) (sio dpc opc : ℕ) → IsTest test → sio < 256 → dpc < 2 ^ 14 → opc < 2 ^ 14 → StandsForTest dpc opc (test_text test sio dpc opc) test
sent_stands test sio dpc opc fits octet to from = record {
  sio = sio / 16 * 16 + 1;
  spare = 0;
  fits = fits;
  octet = omega arith;
  testing = omega arith;
  to = to;
  from = from;
  in_range = omega arith;
  is = refl;
}

pub one_test_text : (test : LinkTest) (sio dpc opc : ℕ) → IsTest test → sio < 256 → dpc < 2 ^ 14 → opc < 2 ^ 14 → IsTheTextOfTest test sio dpc opc
one_test_text test sio dpc opc fits octet to from =
    let stands = sent_stands test sio dpc opc fits octet to from in
    let again = stands_test dpc opc (test_text test sio dpc opc) test stands in record {
      stands = stands;
      alone = λ other s. same_Some other test (sym (stands_test dpc opc (test_text test sio dpc opc) other s) ∙ again);
      again = again;
    }

-- the label of a text is between its point codes
between : (opc dpc : ℕ) (octets : List ℕ) (spare : ℕ) (test : LinkTest) (sio : ℕ) → test.link < 16 → opc < 2 ^ 14 → dpc < 2 ^ 14 → octets ≡ test_text_with spare test sio opc dpc → is_between (label_in octets) opc dpc ≡ true
between opc dpc octets spare test sio link to from is =
    subst (λ (xs : List ℕ). is_between (label_in xs) opc dpc ≡ true) (sym is) (numbers opc dpc test.link to from link)
  where
    whole : (n : ℕ) → n < 0x100000000 → n % 256 + 0x100 * (n / 0x100 % 256) + 0x10000 * (n / 0x10000 % 256) + 0x1000000 * (n / 0x1000000 % 256) ≡ n
    whole n p = omega arith

    fits : (x y z : ℕ) → x < 2 ^ 14 → y < 2 ^ 14 → z < 16 → label_number x y z < 0x100000000
    fits x y z p q r = omega arith

    low : (x y z : ℕ) → x < 2 ^ 14 → y < 2 ^ 14 → z < 16 → label_number x y z % 0x4000 ≡ x
    low x y z p q r = omega arith

    high : (x y z : ℕ) → x < 2 ^ 14 → y < 2 ^ 14 → z < 16 → label_number x y z / 0x4000 % 0x4000 ≡ y
    high x y z p q r = omega arith

    numbers : (x y z : ℕ) → x < 2 ^ 14 → y < 2 ^ 14 → z < 16 → is_between (label_number x y z % 256 + 0x100 * (label_number x y z / 0x100 % 256) + 0x10000 * (label_number x y z / 0x10000 % 256) + 0x1000000 * (label_number x y z / 0x1000000 % 256)) x y ≡ true
    numbers x y z p q r =
        subst (λ (n : ℕ). is_between n x y ≡ true) (sym (whole (label_number x y z) (fits x y z p q r)))
        (and_from _ _ (eq-eqb _ _ (low x y z p q r)) (eq-eqb _ _ (high x y z p q r)))

-- a body with another label is no test
stranger_text : (opc dpc : ℕ) (octets : List ℕ) (test : LinkTest) → is_between (label_in octets) opc dpc ≡ false → is_text_of opc dpc octets test ≡ false
stranger_text opc dpc octets test other =
    false_from_ne_true _ (λ e.
    let is = is_parts opc dpc octets test e in
    let same = between opc dpc octets (slice_index octets 6 % 16) test (slice_index octets 0) is.3.link is.1 is.2 is.4 in
    let no : true ≡ false = sym same ∙ other in cc)

pub stranger : (opc dpc : ℕ) (octets : List ℕ) → is_between (label_in octets) opc dpc ≡ false → None ≡ test_of opc dpc octets
stranger opc dpc octets other =
    sym (no_one _ _ _ _ (stranger_text opc dpc octets (test_at Message octets) other) (stranger_text opc dpc octets (test_at Acknowledgement octets) other))

-- a heading code of a test
kind_code : (code : ℕ) (kind : TestKind) → kind_with code ≡ Some kind → test_heading kind ≡ code
kind_code code kind e =
    elim (tested (code == 17) Message kind _ e) [
      | inl message ↦ subst (λ (k : TestKind). test_heading k ≡ code) message.1 (sym (eqb-true code 17 message.0))
      | inr more ↦ let answer = cond_some (code == 33) Acknowledgement kind more in subst (λ (k : TestKind). test_heading k ≡ code) answer.1 (sym (eqb-true code 33 answer.0))
    ]

-- a body that nothing speaks against stands for the test of its parts
pub parts_stand : (opc dpc : ℕ) (octets : List ℕ) (kind : TestKind) → EachOctet octets → 7 ≤ length octets → slice_index octets 0 % 16 ≡ 1 → kind_with (slice_index octets 5) ≡ Some kind → 0 < length (drop 7 octets) → length (drop 7 octets) ≡ slice_index octets 6 / 16 → is_between (label_in octets) opc dpc ≡ true → StandsForTest opc dpc octets (test_at kind octets)
parts_stand opc dpc (sio ∷ a ∷ b ∷ c ∷ d ∷ code ∷ size ∷ pattern) kind each enough testing head some long same =
    let codes = and_parts _ _ same in
    let to : (a + 0x100 * b + 0x10000 * c + 0x1000000 * d) % 0x4000 ≡ opc = eqb-true _ _ codes.0 in
    let from : (a + 0x100 * b + 0x10000 * c + 0x1000000 * d) / 0x4000 % 0x4000 ≡ dpc = eqb-true _ _ codes.1 in record {
      sio = sio;
      spare = size % 16;
      fits = record {
        link = few d (each 4);
        some = some;
        most = most size (length pattern) (each 6) long;
      };
      octet = each 0;
      testing = testing;
      to = omega (arith, to);
      from = omega (arith, from);
      in_range = omega arith;
      is = sym (
          ap (λ (xs : List ℕ). sio ∷ xs ++ test_heading kind ∷ (size % 16 + 16 * length pattern) ∷ pattern) (label_back a b c d (each 1) (each 2) (each 3) (each 4) opc dpc to from)
          ∙ ap (λ (x : ℕ). sio ∷ a ∷ b ∷ c ∷ d ∷ x ∷ (size % 16 + 16 * length pattern) ∷ pattern) (kind_code code kind head)
          ∙ ap (λ (x : ℕ). sio ∷ a ∷ b ∷ c ∷ d ∷ code ∷ x ∷ pattern) (whole size (length pattern) long));
    }
  where
    few : (n : ℕ) → n < 256 → n / 16 < 16
    few n p = omega arith

    most : (n k : ℕ) → n < 256 → k ≡ n / 16 → k ≤ 15
    most n k p e = omega arith

    whole : (n k : ℕ) → k ≡ n / 16 → n % 16 + 16 * k ≡ n
    whole n k e = omega arith
parts_stand opc dpc (sio ∷ a ∷ b ∷ c ∷ d ∷ code ∷ []) kind each enough testing head some long same = absurd (omega (arith, enough))
parts_stand opc dpc (sio ∷ a ∷ b ∷ c ∷ d ∷ []) kind each enough testing head some long same = absurd (omega (arith, enough))
parts_stand opc dpc (sio ∷ a ∷ b ∷ c ∷ []) kind each enough testing head some long same = absurd (omega (arith, enough))
parts_stand opc dpc (sio ∷ a ∷ b ∷ []) kind each enough testing head some long same = absurd (omega (arith, enough))
parts_stand opc dpc (sio ∷ a ∷ []) kind each enough testing head some long same = absurd (omega (arith, enough))
parts_stand opc dpc (sio ∷ []) kind each enough testing head some long same = absurd (omega (arith, enough))
parts_stand opc dpc [] kind each enough testing head some long same = absurd (omega (arith, enough))
