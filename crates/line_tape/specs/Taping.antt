-- WHAT A TAPE KEEPS of the octets that were put into a line.
use Rattle.std.specs.Prelude.{◌≡◌, refl, ℕ, Bool, true, false, List, [], ◌∷◌, ◌++◌, Option, None}
use Rattle.std.proofs.Common.{ap, sym, ◌∙◌, append_assoc}
use Rattle.std.proofs.lemmas.List.{append-nil}
use Rattle.std.specs.Option.{ForSome}

-- all of them, unless memory was refused
abbrev pub Keeps : Option (List ℕ) → List ℕ → Type 0
Keeps tape put = ForSome tape (λ octets. octets ≡ put)

-- where they're to be kept; else none
abbrev pub IsTape : Bool → Option (List ℕ) → List ℕ → Type 0
IsTape false tape put = tape ≡ None
IsTape true tape put = Keeps tape put

-- AN END GOES ON WITH ITS TAPE: more may have been put by then; where nothing was, the tape is as it was
pub record GoesOn (tape : Option (List ℕ)) (put : List ℕ) (tape' : Option (List ℕ)) (put' : List ℕ) : Type 0 where
  pub more : List ℕ
  pub put_is : put' ≡ put ++ more
  pub stays : more ≡ [] → tape' ≡ tape

-- an end that does nothing goes on so, and one that goes on goes on further
pub stands_still : (tape : Option (List ℕ)) (put : List ℕ) → GoesOn tape put tape put
stands_still tape put = record { more = []; put_is = sym (append-nil put); stays = λ none. refl }

none_of : (xs ys : List ℕ) → xs ++ ys ≡ [] → (xs ≡ []) × (ys ≡ [])
none_of [] ys none = (refl, none)
none_of (x ∷ xs) ys none = absurd (cc none)

pub goes_further : (tape : Option (List ℕ)) (put : List ℕ) (tape' : Option (List ℕ)) (put' : List ℕ) (tape'' : Option (List ℕ)) (put'' : List ℕ)
    → GoesOn tape put tape' put' → GoesOn tape' put' tape'' put'' → GoesOn tape put tape'' put''
goes_further tape put tape' put' tape'' put'' first second = record {
  more = first.more ++ second.more;
  put_is = second.put_is ∙ ap (λ (xs : List ℕ). xs ++ second.more) first.put_is ∙ append_assoc put first.more second.more;
  stays = λ none. let both = none_of first.more second.more none in second.stays both.1 ∙ first.stays both.0;
}
