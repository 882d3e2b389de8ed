-- WHAT A LIST HOLDS when one place of it is set: there what was set (`get_set_same`), elsewhere what it held
-- (`get_set_other`, `at_set`), so what holds of the new element and of the others holds of each (`each_set`); and
-- images alike (`at_map`, `map_at`). Of a set's links: messages move to a link that is open (`target_open`), and
-- where there's no target none is (`none_open`). It all follows from the standard library's lemmas and set_route's Lowest.antt,
-- without an induction here. Whatever sets a link uses it: SoundLink.antt, SoundBack.antt, Framing.antt, and
-- pair_changeover's Changes.antt.
use Rattle.std.proofs.Common.{refl, Bool, Option, [], ◌∷◌, zero, suc, arith, ◌≡◌, ◌≢◌, ◌==◌, false, ◌∙◌, ap, sym, ◌<◌, length, ℕ, List, map, slice_get, slice_set, Some, ◌⊎◌, option_map, subst, true, None}
pub use Rattle.std.proofs.lemmas.Option.{slice_get_within as within}
pub use Rattle.std.proofs.lemmas.List.{length-set as length_set, map-set as map_set}
use Rattle.std.proofs.lemmas.Option.{same_Some, get_or_from_slice_get, slice_get-get_or, slice_get-map, slice_get_cases, slice_get_past}
use Rattle.std.proofs.lemmas.Bool.Decides.{nat_tests}
use Rattle.std.proofs.lemmas.List.{set-get_or, get_or-set_same, get_or-set_other}
use Rattle.std.proofs.Math.Seq.{map-set_same}
use Rattle.set_route.specs.Target.{IsTarget}
use Rattle.set_model.specs.Changeover.{fate_on}
use Rattle.set_model.specs.Rows.{is_on}
use Rattle.set_model.specs.State.{carries_in, has_phase_settled, LinkState, Phase, Up, Down, Settled, has_phase_up, link_is_open, link_is_up, open_link, opens_in, target}
use Rattle.set_route.proofs.Lowest.{target_is}

pub get_set_same : {X : Type 0} (xs : List X) (n : ℕ) (x : X) → n < length xs → slice_get (slice_set xs n x) n ≡ Some x
get_set_same xs n x few = slice_get-get_or (slice_set xs n x) n x (omega (arith, few, length_set xs n x)) ∙ ap Some (get_or-set_same xs n x x few)

pub get_set_other : {X : Type 0} (xs : List X) (n m : ℕ) (x : X) → n ≢ m → slice_get (slice_set xs n x) m ≡ slice_get xs m
get_set_other xs n m x other =
    grind (
      arith,
      slice_get-get_or (slice_set xs n x) m x,
      slice_get-get_or xs m x,
      slice_get_past (slice_set xs n x) m,
      slice_get_past xs m,
      get_or-set_other xs n m x x (λ e. other (sym e)),
      length_set xs n x,
    )

pub set_same : {X : Type 0} (xs : List X) (n : ℕ) (x : X) → slice_get xs n ≡ Some x → slice_set xs n x ≡ xs
set_same xs n x there = grind (arith, set-get_or xs n x, get_or_from_slice_get)

-- where one place is set, each place holds what was set or what it held
pub at_set : {X : Type 0} (xs : List X) (n m : ℕ) (x y : X) → slice_get (slice_set xs n x) m ≡ Some y
    → ((m ≡ n) × (y ≡ x)) ⊎ ((m ≢ n) × (slice_get xs m ≡ Some y))
at_set xs n m x y there = grind (arith, get_set_same, get_set_other, within, length_set)

-- what holds of the new element and of the others holds of each
pub each_set : {X : Type 0} (P : ℕ → X → Type 0) (xs : List X) (n : ℕ) (x : X) → P n x
    → ((m : ℕ) (y : X) → (n == m) ≡ false → slice_get xs m ≡ Some y → P m y) → (m : ℕ) (y : X)
    → slice_get (slice_set xs n x) m ≡ Some y → P m y
each_set P xs n x one others m y there = grind (arith, nat_tests, at_set)

-- a place that is set to something of the same image
pub map_set_same : {X Y : Type 0} (f : X → Y) (xs : List X) (n : ℕ) (x y : X) → slice_get xs n ≡ Some x → f y ≡ f x → map f (slice_set xs n y) ≡ map f xs
map_set_same f xs n x y there same = map-set_same f xs n y x (same ∙ ap f (sym (get_or_from_slice_get xs n x x there)))

pub same_at : {X : Type 0} (xs : List X) (n : ℕ) (x y : X) → slice_get xs n ≡ Some x → slice_get xs n ≡ Some y → y ≡ x
same_at xs n x y a b = same_Some y x (sym b ∙ a)

-- what is found in a list of images is the image of something there
pub at_map : {X Y : Type 0} (f : X → Y) (xs : List X) (n : ℕ) (y : Y) → slice_get (map f xs) n ≡ Some y → (x : X) × (slice_get xs n ≡ Some x) × (f x ≡ y)
at_map f xs n y there = grind (arith, slice_get-map f xs n)

pub map_at : {X Y : Type 0} (f : X → Y) (xs : List X) (n : ℕ) (x : X) → slice_get xs n ≡ Some x → slice_get (map f xs) n ≡ Some (f x)
map_at f xs n x there = slice_get-map f xs n ∙ ap (option_map f) there

pub present : {X : Type 0} (xs : List X) (n : ℕ) → n < length xs → (x : X) × (slice_get xs n ≡ Some x)
present xs n few = grind (arith, slice_get_cases xs n)

-- of what is set twice the last stays
pub set_twice : {X : Type 0} (xs : List X) (n : ℕ) (x y : X) → slice_set (slice_set xs n x) n y ≡ slice_set xs n y
set_twice [] n x y = refl
set_twice (z ∷ xs) zero x y = refl
set_twice (z ∷ xs) (suc n) x y = ap (λ (ys : List _). z ∷ ys) (set_twice xs n x y)

-- A link that isn't up isn't open.
pub not_open : (tested : Bool) (phase : Phase) → has_phase_up phase ≡ false → opens_in tested phase ≡ false
not_open tested Up e = absurd cc
not_open tested Down e = refl
not_open tested Settled e = refl

pub found_shut : (o : Option LinkState) → link_is_up o ≡ false → link_is_open o ≡ false
found_shut None e = refl
found_shut (Some link) e = not_open link.tested link.phase e

-- and one that's open is up
pub opens_up : (tested : Bool) (phase : Phase) → opens_in tested phase ≡ true → has_phase_up phase ≡ true
opens_up tested Up e = refl
opens_up tested Down e = absurd cc
opens_up tested Settled e = absurd cc

pub found_up : (o : Option LinkState) → link_is_open o ≡ true → link_is_up o ≡ true
found_up None e = absurd cc
found_up (Some link) e = opens_up link.tested link.phase e

-- one that carries streams isn't settled
pub carried_unsettled : (tested : Bool) (phase : Phase) → carries_in tested phase ≡ true → has_phase_settled phase ≡ false
carried_unsettled tested Up e = refl
carried_unsettled tested Down e = refl
carried_unsettled tested Settled e = absurd cc

-- The link that messages are moved to.
pub target_open : (links : List LinkState) (to : ℕ) → target links ≡ Some to → (link : LinkState)
    × (slice_get links to ≡ Some link) × (open_link link ≡ true)
target_open links to e = at_map (λ (l : LinkState). open_link l) links to true
    (subst (IsTarget _) e (target_is (map (λ (l : LinkState). open_link l) links))).0

-- where there is none, no link is open
pub none_open : (links : List LinkState) (n : ℕ) (link : LinkState) → target links ≡ None → slice_get links n ≡ Some link → open_link link ≡ false
none_open links n link e there = let is = subst (IsTarget _) e (target_is (map (λ (l : LinkState). open_link l) links)) n in grind (arith, map_at, is)

-- what goes there goes to no link that isn't open
pub target_off : (links : List LinkState) (n : ℕ) → link_is_open (slice_get links n) ≡ false → is_on n (fate_on (target links)) ≡ false
target_off links n shut = grind (arith, nat_tests, target_open)
