use Rattle.std.proofs.Common.{arith, refl, ◌≡◌, ◌∙◌, sym, ◌≤◌, ℕ, List, drop, false, nat_lt, ◌==◌}
use Rattle.std.proofs.lemmas.Grind.{common_steps}
use Rattle.std.proofs.lemmas.Bool.Decides.{nat_tests}
use Rattle.set_history.specs.Told.{behind_answer}
use Rattle.set_history.proofs.octets.Octets.answer.Goals as goal

-- a refusal has one octet
refused : (form : ℕ) (octets : List ℕ) → 6 ≤ form → behind_answer form octets ≡ drop 1 octets
refused form octets h =
    let a : (form == 1) ≡ false = grind (arith, nat_tests, h) in
    let b : (form == 3) ≡ false = grind (arith, nat_tests, h) in
    let c : (form == 5) ≡ false = grind (arith, nat_tests, h) in
    let d : nat_lt form 5 ≡ false = grind (arith, nat_tests, h) in
    rw (a, b, c, d) refl

pub returns-in_default-clause-behind : goal.returns-in_default-clause-behind
returns-in_default-clause-behind c =
    let six : 6 ≤ c.args.form = grind (arith, common_steps) in
    c.octet.ensures.behind ∙ sym (refused c.args.form c.args.self.now six)
