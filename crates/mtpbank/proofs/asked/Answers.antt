use Rattle.std.proofs.Common.{◌≡◌, ◌∷◌, [], ◌++◌, Bool, true, false, true≢false, List, Result, Ok, Err, length, refl, sym, ap, subst, ◌∙◌, append_assoc, append-nil, arith, if◌then◌else◌, IfOk, IfErr}
use Rattle.std.specs.Result.{is_err, is_ok}
use Rattle.std.specs.Vec.Iter.{into_iter_items}
use Rattle.mtpbank_words.specs.CommandLine.{IsAsked, Refuses, words_in}
use Rattle.mtpbank.proofs.asked.Goals as goal

nothing_left : {X : Type 0} (l : List X) → length l ≡ 0 → l ≡ []
nothing_left [] h = refl
nothing_left (x ∷ xs) h = absurd (omega arith)

ok_where : {X E : Type 0} (r : Result X E) → is_err r ≡ false → is_ok r ≡ true
ok_where (Ok x) h = refl
ok_where (Err e) h = absurd (true≢false h)

if_ok : {X E : Type 0} (r : Result X E) (x : X) (P : X → Type 0) → r ≡ Ok x → P x → IfOk r P
if_ok {X} {E} r x P is p = subst (λ (r : Result X E). IfOk r P) (sym is) p

-- one more was given, and is left no more
pushed : {X : Type 0} (b : Bool) (new old rest left all : List X) (x : X) → b ≡ true → new ≡ (if b then old ++ x ∷ [] else old) → left ≡ x ∷ rest → old ++ left ≡ all
    → new ++ rest ≡ all
pushed {X} b new old rest left all x is more steps before =
    let here : new ≡ old ++ x ∷ [] = more ∙ ap (λ (b : Bool). if b then old ++ x ∷ [] else old) is in
    ap (λ (l : List X). l ++ rest) here ∙ (append_assoc old (x ∷ []) rest ∙ (ap (λ (l : List X). old ++ l) (sym steps) ∙ before))

-- src/main.rt
pub loop-word-preserved : goal.loop-word-preserved
loop-word-preserved c =
    let at = c.loop-word in
    pushed (is_ok c.push.result) c.push.new.self.items at.given.items (into_iter_items c.next.new.self) (into_iter_items at.word-iterator)
    (into_iter_items c.into_iter-word-iterator.result) c.in-Some.word
    (ok_where c.push.result (sym c.is_err.ensures.value ∙ c.if-is_err.false)) c.push.ensures.items c.in-Some.ensures.steps.0 at.invariant

pub returns-clause-asked : goal.returns-clause-asked
returns-clause-asked c =
    let at = c.loop-word in
    let left : into_iter_items at.word-iterator ≡ [] = nothing_left _ (sym at.word-iterator.rest.ok.0 ∙ c.in-None.ensures.steps.0) in
    let all : c.deref.result.now ≡ into_iter_items c.in-Ok.all =
    c.deref.ensures.value ∙ (sym (append-nil at.given.items) ∙ (sym (ap (λ l. at.given.items ++ l) left) ∙ (at.invariant ∙ ap into_iter_items c.into_iter-word-iterator.ensures.into_iter_gives))) in
    if_ok c.args.args c.in-Ok.all _ c.in-Ok.is
    (subst (λ words. IfOk c.asked_by.result (λ found. IsAsked found (words_in words))) all c.asked_by.ensures.asked)

pub returns-clause-refused : goal.returns-clause-refused
returns-clause-refused c =
    let at = c.loop-word in
    let left : into_iter_items at.word-iterator ≡ [] = nothing_left _ (sym at.word-iterator.rest.ok.0 ∙ c.in-None.ensures.steps.0) in
    let all : c.deref.result.now ≡ into_iter_items c.in-Ok.all =
    c.deref.ensures.value ∙ (sym (append-nil at.given.items) ∙ (sym (ap (λ l. at.given.items ++ l) left) ∙ (at.invariant ∙ ap into_iter_items c.into_iter-word-iterator.ensures.into_iter_gives))) in
    if_ok c.args.args c.in-Ok.all _ c.in-Ok.is
    (subst (λ words. IfErr c.asked_by.result (λ fault. Refuses fault (words_in words))) all c.asked_by.ensures.refused)
