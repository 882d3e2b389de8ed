-- What is needed where seats are gone through one after another.
use Rattle.std.proofs.Common.{arith, ◌≡◌, ◌∙◌, ap, sym, subst, add-one, drop-cons, ◌<◌, ◌≤◌, ◌↔◌, ◌+◌, suc, ℕ, Bool, true, false, List, ◌∷◌, length, drop, get_or, All}
use Rattle.std.proofs.lemmas.List.{drop_all}
use Rattle.std.proofs.lemmas.List.Elements.{All-cons, All-drop}
use Rattle.std.specs.Prelude.{if◌then◌else◌}
use Rattle.set_events.specs.declared.event.Actor.{Actor}
use Rattle.set_ledger.specs.Seats.{SeatState}
use Rattle.set_ledger.specs.Ending.{is_actor, has_seat}

pub not_both : {b : Bool} → b ≡ false → b ≡ true → ⊥
not_both wrong right = let e : false ≡ true = sym wrong ∙ right in absurd cc

next_of : {X : Type 0} (xs : List X) (i : ℕ) (x : X) → i < length xs → x ≡ get_or xs i x → drop i xs ≡ x ∷ drop (i + 1) xs
next_of xs i x less is = rw add-one (drop-cons xs i x less ∙ ap (λ y. y ∷ drop (suc i) xs) (sym is))

-- whether the seats from one on have this actor's is decided by that one, or by those after it
pub has_on : {S : Type 0} (of : S → SeatState) (who : Actor) (seats : List S) (i : ℕ) (seat : S) (asked : Actor) (b : Bool) → i < length seats → seat ≡ get_or seats i seat → asked ≡ (of seat).who → b ≡ is_actor who asked → has_seat of who seats ≡ has_seat of who (drop i seats)
    → has_seat of who seats ≡ (if b then true else has_seat of who (drop (i + 1) seats))
has_on of who seats i seat asked b less is same test so_far =
    so_far ∙ ap (has_seat of who) (next_of seats i seat less is) ∙ ap (λ (c : Bool). if c then true else has_seat of who (drop (i + 1) seats)) (ap (is_actor who) (sym same) ∙ sym test)

pub has_none : {S : Type 0} (of : S → SeatState) (who : Actor) (seats : List S) (i : ℕ) → length seats ≤ i → has_seat of who seats ≡ has_seat of who (drop i seats) → false ≡ has_seat of who seats
has_none of who seats i past so_far = sym (so_far ∙ ap (has_seat of who) (drop_all i seats past))

-- whether something holds of all is decided by those that are left
pub all_on : {X : Type 0} (P : X → Type 0) (xs : List X) (i : ℕ) (x : X) → i < length xs → x ≡ get_or xs i x → P x → (All P xs ↔ All P (drop i xs)) → (All P xs ↔ All P (drop (i + 1) xs))
all_on P xs i x less is p way =
    let split = next_of xs i x less is in (
      (λ all. All-drop P 1 (x ∷ drop (i + 1) xs) (subst (All P) split (way.0 all))),
      (λ rest. way.1 (subst (All P) (sym split) (All-cons P x (drop (i + 1) xs) p rest))),
    )

pub all_past : {X : Type 0} (P : X → Type 0) (xs : List X) (i : ℕ) → length xs ≤ i → (All P xs ↔ All P (drop i xs)) → All P xs
all_past P xs i past way = way.1 (subst (All P) (sym (drop_all i xs past)) (λ k d less. absurd (omega (arith, less))))

pub not_all : {X : Type 0} (P : X → Type 0) (xs : List X) (i : ℕ) (x : X) → i < length xs → x ≡ get_or xs i x → (P x → ⊥) → All P xs → ⊥
not_all P xs i x less is fails all = fails (subst P (sym is) (all i x less))
