-- The signalling link test messages (Q.707 2.2) and the traffic restart allowed message (Q.704 9): which bodies are whose text.
use Rattle.std.specs.Prelude.{◌≡◌, ◌↔◌, ℕ, Bool, ◌&&◌, ◌+◌, ◌*◌, ◌/◌, ◌%◌, ◌^◌, ◌==◌, nat_lt, ◌<◌, ◌≤◌, Option, Some, None, List, [], ◌∷◌, ◌++◌, length, slice_index, drop, bytes_eq, All, if◌then◌else◌}
use Rattle.l2_units.specs.Grammar.{four_octets}
use Rattle.l3_orders.specs.Grammar.{heading, label}
use Rattle.l3_orders.specs.declared.link_test.LinkTest.{LinkTest}
use Rattle.l3_orders.specs.declared.link_test.TestKind.{TestKind}
use Rattle.l3_orders.specs.declared.link_test.TestKind.TheVariants.{Message, Acknowledgement}

-- The text.

-- SLTM and SLTA are of group 1
abbrev pub test_heading : TestKind → ℕ
test_heading Message = heading 1 1
test_heading Acknowledgement = heading 1 2

-- a test between two point codes: SIO, label, heading code, an octet with the length of the pattern above four spare bits,
-- and the pattern
abbrev pub test_text_with : ℕ → LinkTest → ℕ → ℕ → ℕ → List ℕ
test_text_with spare test sio dpc opc =
    sio ∷ label dpc opc test.link ++ test_heading test.kind
    ∷ (spare + 16 * length test.pattern.items) ∷ test.pattern.items

-- the set's SIO with the service indicator 1: testing and maintenance of the network
abbrev pub testing_sio : ℕ → ℕ
testing_sio sio = sio / 16 * 16 + 1

-- a test as it is sent: spare bits 0
abbrev pub test_text : LinkTest → ℕ → ℕ → ℕ → List ℕ
test_text test sio dpc opc = test_text_with 0 test (testing_sio sio) dpc opc

-- every field fits its bits, and there is a pattern
pub record IsTest (test : LinkTest) : Type 0 where
  pub link : test.link < 16
  pub some : 0 < length test.pattern.items
  pub most : length test.pattern.items ≤ 15

-- THE GRAMMAR: a body that is heard at the point code opc from dpc stands for a test if it is the test's text with that
-- DPC and OPC turned round, some SIO with service indicator 1, and some spare bits
pub record StandsForTest (opc dpc : ℕ) (octets : List ℕ) (test : LinkTest) : Type 0 where
  pub sio : ℕ
  pub spare : ℕ
  pub fits : IsTest test
  pub octet : sio < 256
  pub testing : sio % 16 ≡ 1
  pub to : opc < 2 ^ 14
  pub from : dpc < 2 ^ 14
  pub in_range : spare < 16
  pub is : octets ≡ test_text_with spare test sio opc dpc

-- The test that a body is.

-- the test of this kind whose link and pattern stand at their places in a body
abbrev pub test_at : TestKind → List ℕ → LinkTest
test_at kind octets = record {
  kind = kind;
  link = slice_index octets 4 / 16;
  pattern = record { items = drop 7 octets };
}

-- a body is this test's text with the SIO and the spare bits that it has, heard at opc from dpc
abbrev pub is_text_of : ℕ → ℕ → List ℕ → LinkTest → Bool
is_text_of opc dpc octets test =
    (slice_index octets 0 % 16 == 1) && nat_lt opc 0x4000 && nat_lt dpc 0x4000
    && nat_lt test.link 16 && nat_lt 0 (length test.pattern.items) && nat_lt (length test.pattern.items) 16
    && bytes_eq octets (test_text_with (slice_index octets 6 % 16) test (slice_index octets 0) opc dpc)

-- THE TEST THAT A BODY IS: the one whose text it is
abbrev pub test_of : ℕ → ℕ → List ℕ → Option LinkTest
test_of opc dpc octets =
    if is_text_of opc dpc octets (test_at Message octets) then Some (test_at Message octets)
    else (if is_text_of opc dpc octets (test_at Acknowledgement octets) then Some (test_at Acknowledgement octets)
    else None)

-- LAW: a body is found to be a test exactly where it stands for it
abbrev pub IsOneTestGrammar : Type 0
IsOneTestGrammar =
    (opc dpc : ℕ) (octets : List ℕ) (test : LinkTest) → All (λ octet. octet < 256) octets
    → (test_of opc dpc octets ≡ Some test) ↔ StandsForTest opc dpc octets test

-- the text of a test stands for it, and for no other, at the end that it goes to
pub record IsTheTextOfTest (test : LinkTest) (sio dpc opc : ℕ) : Type 0 where
  pub stands : StandsForTest dpc opc (test_text test sio dpc opc) test
  pub alone : (other : LinkTest) → StandsForTest dpc opc (test_text test sio dpc opc) other → other ≡ test
  pub again : test_of dpc opc (test_text test sio dpc opc) ≡ Some test

-- the point codes of a label: it goes to opc and comes from dpc
abbrev pub is_between : ℕ → ℕ → ℕ → Bool
is_between number opc dpc = (number % 0x4000 == opc) && (number / 0x4000 % 0x4000 == dpc)

-- THE PATTERN of a link's test n: n modulo 2 ^ 32 in four octets, least significant first
abbrev pub test_pattern : ℕ → List ℕ
test_pattern n = four_octets n

-- TRAFFIC RESTART ALLOWED: group 7, on the link that the SLC names
abbrev pub restart_text : ℕ → ℕ → ℕ → ℕ → List ℕ
restart_text link sio dpc opc = sio ∷ label dpc opc link ++ heading 7 1 ∷ []
