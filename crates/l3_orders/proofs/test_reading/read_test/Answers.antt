use Rattle.std.proofs.Common.{rules, arith, sym, ap, subst, ◌∙◌, ◌-◌, ◌≡◌, ◌<◌, ◌≤◌, ◌/◌, ◌%◌, ℕ, true, false, Some, List, drop, take, length, slice_index, Fits, w8}
use Rattle.std.proofs.lemmas.List.{drop-drop, take_rest}
use Rattle.l3_orders.proofs.TestTexts.{parts_stand, stands_test, stranger}
use Rattle.l3_orders.specs.TestFault.{kind_with, label_in}
use Rattle.l3_orders.specs.Tests.{StandsForTest, is_between}
use Rattle.l3_orders.proofs.test_reading.read_test.Goals as goal

octet : (octets : List ℕ) (i : ℕ) → Fits w8 (slice_index octets i) → slice_index octets i < 256
octet octets i fits = omega (arith, fits)

-- the pattern is what stands behind the seventh octet
behind : (octets items : List ℕ) → take (length (take (length octets - 6) (drop 6 octets)) - 1) (drop 1 (take (length octets - 6) (drop 6 octets))) ≡ items → drop 7 octets ≡ items
behind octets items is =
    sym (drop-drop 1 6 octets)
    ∙ ap (λ (xs : List ℕ). drop 1 xs) (sym (take_rest octets 6))
    ∙ sym (take_rest (take (length octets - 6) (drop 6 octets)) 1)
    ∙ is

pub returns-then-not-is_between-clause-exact : goal.returns-then-not-is_between-clause-exact
returns-then-not-is_between-clause-exact c =
    let other : is_between (label_in c.args.body.now) c.args.opc c.args.dpc ≡ false = search rules in
    stranger c.args.opc c.args.dpc c.args.body.now other

pub returns-clause-found : goal.returns-clause-found
returns-clause-found c =
    let enough : 7 ≤ length c.args.body.now = search rules in
    let testing : slice_index c.args.body.now 0 % 16 ≡ 1 = search rules in
    let head : kind_with (slice_index c.args.body.now 5) ≡ Some c.in-Some-kind_with.kind = search rules in
    let some : 0 < length (drop 7 c.args.body.now) = search rules in
    let long : length (drop 7 c.args.body.now) ≡ slice_index c.args.body.now 6 / 16 = search rules in
    let same : is_between (label_in c.args.body.now) c.args.opc c.args.dpc ≡ true = search rules in
    let items : drop 7 c.args.body.now ≡ c.pattern_of_octets.result.items = behind c.args.body.now _ (sym c.pattern_of_octets.ensures) in
    subst (λ (xs : List ℕ). StandsForTest c.args.opc c.args.dpc c.args.body.now (record { kind = c.in-Some-kind_with.kind; link = slice_index c.args.body.now 4 / 16; pattern = record { items = xs } })) items
    (parts_stand c.args.opc c.args.dpc c.args.body.now c.in-Some-kind_with.kind (λ i. octet c.args.body.now i (c.type_inv.body i)) enough testing head some long same)

pub returns-clause-exact : goal.returns-clause-exact
returns-clause-exact c = sym (stands_test c.args.opc c.args.dpc c.args.body.now _ (returns-clause-found c))
