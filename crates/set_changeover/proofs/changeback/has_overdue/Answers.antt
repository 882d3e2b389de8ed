use Rattle.std.proofs.Common.{arith, ap, sym, ◌∙◌, ◌≡◌, ◌-◌, ◌+◌, ◌||◌, ℕ, suc, Bool, true, false, is_some}
use Rattle.set_route.specs.Routing.{code_for}
use Rattle.set_model.specs.Changeover.{some_overdue}
use Rattle.set_changeover.proofs.Declaring.{overdue_next}
use Rattle.set_changeover.proofs.changeback.has_overdue.Goals as goal

pub returns-then-is_some : goal.returns-then-is_some
returns-then-is_some o c = λ s f.
    let n = c.loop-alternative.alternative in
    let code : c.changeback_code.result ≡ code_for c.args.home n = c.changeback_code.ensures in
    let due : is_some c.overdue.result ≡ true = sym c.is_some.ensures ∙ c.if-is_some.true in
    sym (c.loop-alternative.invariant s f
    ∙ ap (λ (k : ℕ). some_overdue k (16 - n) s) (sym code)
    ∙ overdue_next c.changeback_code.result (16 - n) (16 - (n + 1)) s c.overdue.result (omega arith) (c.overdue.ensures s f)
    ∙ ap (λ (b : Bool). b || some_overdue (suc c.changeback_code.result) (16 - (n + 1)) s) due)

pub loop-alternative-preserved : goal.loop-alternative-preserved
loop-alternative-preserved o c = λ s f.
    let n = c.loop-alternative.alternative in
    let code : c.changeback_code.result ≡ code_for c.args.home n = c.changeback_code.ensures in
    let none : is_some c.overdue.result ≡ false = sym c.is_some.ensures ∙ c.if-is_some.false in
    c.loop-alternative.invariant s f
    ∙ ap (λ (k : ℕ). some_overdue k (16 - n) s) (sym code)
    ∙ overdue_next c.changeback_code.result (16 - n) (16 - (n + 1)) s c.overdue.result (omega arith) (c.overdue.ensures s f)
    ∙ ap (λ (b : Bool). b || some_overdue (suc c.changeback_code.result) (16 - (n + 1)) s) none
    ∙ ap (λ (k : ℕ). some_overdue k (16 - (n + 1)) s) (let next : suc c.changeback_code.result ≡ code_for c.args.home (n + 1) = omega (arith, code) in next)

pub returns : goal.returns
returns o c = λ s f.
    let n = c.loop-alternative.alternative in
    let end : 16 - n ≡ 0 = omega (arith, c.loop-alternative-test.false) in
    sym (c.loop-alternative.invariant s f ∙ ap (λ (k : ℕ). some_overdue (code_for c.args.home n) k s) end)
