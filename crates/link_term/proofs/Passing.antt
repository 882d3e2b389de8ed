-- WHAT PASSES AN END OF A LINE: what `take` and `put` of a line promise, as `Passes`, and both one after the other. No
-- induction. Uses nothing here; used by `take_turn`, `put_octet` and SixSteps.
use Rattle.std.proofs.Common.{refl, sym, ap, arith, ◌≡◌, ◌∙◌, ℕ, ◌≤◌, List, [], ◌∷◌, ◌++◌, Option, Some, None, IfSome, IsNone, append-nil, append_assoc, subst}
use mathlib.Core.List.{IsPrefix}
use Rattle.std.specs.Option.{option_to_list}
use Rattle.link_term.specs.Looking.{Seen, seen, Passes}

-- an octet was taken, or none waited
pub took : (octet : Option ℕ) (given given' waiting waiting' put put' : List ℕ) (free free' : ℕ)
    → IfSome octet (λ o. (given' ≡ given ++ o ∷ []) × IsPrefix waiting (o ∷ waiting'))
    → (IsNone octet → (given' ≡ given) × (waiting ≡ []) × (waiting' ≡ [])) → put' ≡ put → free ≤ free'
    → Passes octet [] (seen given waiting put free) (seen given' waiting' put' free')
took (Some o) given given' waiting waiting' put put' free free' some none same frees = record {
  given_is = some.0;
  put_is = same ∙ sym (append-nil put);
  waits = some.1;
  frees = omega (arith, frees);
}
took None given given' waiting waiting' put put' free free' some none same frees = record {
  given_is = (none refl).0 ∙ sym (append-nil given);
  put_is = same ∙ sym (append-nil put);
  waits = (waiting', ap (λ (w : List ℕ). w ++ waiting') (none refl).1);
  frees = omega (arith, frees);
}

pub none_waited : (octet : Option ℕ) (given given' waiting waiting' : List ℕ)
    → (IsNone octet → (given' ≡ given) × (waiting ≡ []) × (waiting' ≡ [])) → octet ≡ None → waiting ≡ []
none_waited octet given given' waiting waiting' none is = (none (subst (λ o. IsNone o) (sym is) refl)).1

-- nothing passed
pub none_passed : (line : Seen) → Passes None [] line line
none_passed line = record {
  given_is = sym (append-nil line.given);
  put_is = sym (append-nil line.put);
  waits = ([], append-nil line.waiting);
  frees = omega arith;
}

-- an octet was taken, and then these were put
pub passes_on : (octet : Option ℕ) (out : List ℕ) (a b c : Seen) → Passes octet [] a b → Passes None out b c
    → Passes octet out a c
passes_on octet out a b c first second = record {
  given_is = second.given_is ∙ append-nil b.given ∙ first.given_is;
  put_is = second.put_is ∙ ap (λ (p : List ℕ). p ++ out) (first.put_is ∙ append-nil a.put);
  waits = (
    first.waits.0 ++ second.waits.0,
    sym (append_assoc a.waiting first.waits.0 second.waits.0)
        ∙ ap (λ (w : List ℕ). w ++ second.waits.0) first.waits.1
        ∙ append_assoc (option_to_list octet) b.waiting second.waits.0
        ∙ ap (λ (w : List ℕ). option_to_list octet ++ w) second.waits.1,
  );
  frees = omega (arith, first.frees, second.frees);
}
