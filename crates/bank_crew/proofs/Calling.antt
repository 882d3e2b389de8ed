-- What a user's call leaves at its seat.
use Rattle.std.proofs.Common.{refl, arith, ◌≡◌, ◌∙◌, ap, sym, subst, ◌+◌, ◌-◌, ◌<◌, ◌≤◌, ℕ, suc, List, ◌∷◌, length, map, drop, drop-cons, add-one, get_or, Option, None, Some, MatchOption, Result, Ok, Err}
use Rattle.std.proofs.lemmas.List.{drop_all}
use Rattle.set_events.specs.declared.answer.Answer.{Answer}
use Rattle.set_events.specs.declared.event.Actor.{Actor}
use Rattle.set_events.specs.declared.fault.SetFault.{SetFault}
use Rattle.set_events.specs.declared.history.Entry.{Entry}
use Rattle.bank_crew.specs.declared.fault.UserFault.{UserFault}
use Rattle.bank_crew.specs.Jobs.{AfterOffer, Finds, Offers, OffersOne, Takes, TakesOne, end_of_call, number_of}

-- AN OFFER was answered: its number is found, or there is none.
pub after_some : (who who' : Actor) (offered : Result Answer SetFault) (told : Option ℕ) (number : ℕ) (ended : Result (Unit {0}) UserFault) (before after : List Entry) → told ≡ number_of offered → told ≡ Some number → who' ≡ who
    → Finds who' number ended before after → AfterOffer who offered ended before after
after_some who who' offered told number ended before after is some same finds =
    subst (λ (o : Option ℕ). MatchOption o ((ended ≡ end_of_call offered) × (after ≡ before)) (λ n. Finds who n ended before after)) (sym some ∙ is)
    (subst (λ (w : Actor). Finds w number ended before after) same finds)

pub after_none : (who : Actor) (offered : Result Answer SetFault) (told : Option ℕ) (ended : Result (Unit {0}) UserFault) (entries : List Entry) → told ≡ number_of offered → told ≡ None → ended ≡ end_of_call offered → AfterOffer who offered ended entries entries
after_none who offered told ended entries is none ends =
    subst (λ (o : Option ℕ). MatchOption o ((ended ≡ end_of_call offered) × (entries ≡ entries)) (λ n. Finds who n ended entries entries)) (sym none ∙ is) (ends, refl)

next_of : {X : Type 0} (xs : List X) (i : ℕ) (x : X) → i < length xs → x ≡ get_or xs i x → drop i xs ≡ x ∷ drop (i + 1) xs
next_of xs i x less is = rw add-one (drop-cons xs i x less ∙ ap (λ y. y ∷ drop (suc i) xs) (sym is))

-- BODIES, one more, or one that ends it
module _ {B : Type 0} (octets : B → List ℕ) (who who' : Actor) (bodies : List B) (i : ℕ) (body : B) (less : i < length bodies) (is : body ≡ get_or bodies i body) (same : who' ≡ who) (given : List ℕ) (given_is : given ≡ octets body) where
  of_body : (one : Result (Unit {0}) UserFault) (before between : List Entry) → OffersOne who' given one before between → OffersOne who (octets body) one before between
  of_body one before between offers =
      subst (λ (w : Actor). OffersOne w (octets body) one before between) same (subst (λ (o : List ℕ). OffersOne who' o one before between) given_is offers)

  pub one_offered : (one : Result (Unit {0}) UserFault) (before between : List Entry) → one ≡ Ok tt → OffersOne who' given one before between → (ended : Result (Unit {0}) UserFault) (after : List Entry)
      → Offers who (map octets (drop (i + 1) bodies)) ended between after → Offers who (map octets (drop i bodies)) ended before after
  one_offered one before between well offers ended after rest =
      subst (λ (xs : List B). Offers who (map octets xs) ended before after) (sym (next_of bodies i body less is))
      (Ok tt, between, of_body (Ok tt) before between (subst (λ (o : Result (Unit {0}) UserFault). OffersOne who' given o before between) well offers), rest)

  pub one_ended : (one : Result (Unit {0}) UserFault) (fault : UserFault) (before between : List Entry) → one ≡ Err fault → OffersOne who' given one before between → Offers who (map octets (drop i bodies)) (Err fault) before between
  one_ended one fault before between ill offers =
      subst (λ (xs : List B). Offers who (map octets xs) (Err fault) before between) (sym (next_of bodies i body less is))
      (Err fault, between, of_body (Err fault) before between (subst (λ (o : Result (Unit {0}) UserFault). OffersOne who' given o before between) ill offers), (refl, refl))

pub none_left : {B : Type 0} (octets : B → List ℕ) (who : Actor) (bodies : List B) (i : ℕ) (entries : List Entry) → length bodies ≤ i → Offers who (map octets (drop i bodies)) (Ok tt) entries entries
none_left {B} octets who bodies i entries past = subst (λ (xs : List B). Offers who (map octets xs) (Ok tt) entries entries) (sym (drop_all i bodies past)) (refl, refl)

-- TAKES, one more, or one that ends it
module _ (who who' : Actor) (times i : ℕ) (less : i < times) (same : who' ≡ who) where
  left : suc (times - (i + 1)) ≡ times - i
  left = omega (arith, less)

  pub one_taken : (one : Result (Unit {0}) UserFault) (before between : List Entry) → one ≡ Ok tt → TakesOne who' one before between → (ended : Result (Unit {0}) UserFault) (after : List Entry)
      → Takes who (times - (i + 1)) ended between after → Takes who (times - i) ended before after
  one_taken one before between well takes ended after rest =
      subst (λ (n : ℕ). Takes who n ended before after) left
      (Ok tt, between, subst (λ (w : Actor). TakesOne w (Ok tt) before between) same (subst (λ (o : Result (Unit {0}) UserFault). TakesOne who' o before between) well takes), rest)

  pub take_ended : (one : Result (Unit {0}) UserFault) (fault : UserFault) (before between : List Entry) → one ≡ Err fault → TakesOne who' one before between → Takes who (times - i) (Err fault) before between
  take_ended one fault before between ill takes =
      subst (λ (n : ℕ). Takes who n (Err fault) before between) left
      (Err fault, between, subst (λ (w : Actor). TakesOne w (Err fault) before between) same (subst (λ (o : Result (Unit {0}) UserFault). TakesOne who' o before between) ill takes), (refl, refl))

pub no_take_left : (who : Actor) (times i : ℕ) (entries : List Entry) → times ≤ i → Takes who (times - i) (Ok tt) entries entries
no_take_left who times i entries past =
    let none : 0 ≡ times - i = omega (arith, past) in
    subst (λ (n : ℕ). Takes who n (Ok tt) entries entries) none (refl, refl)
