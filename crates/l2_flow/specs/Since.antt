-- "Since": what began, and has not ended.
use Rattle.std.specs.Prelude.{◌≡◌, Bool, true, false, List, ◌∷◌, ◌++◌}
use Rattle.std.specs.List.{list_any}

-- some entry of the list begins it, and no later one ends it
pub record Since {A : Type 0} (begins ends : A → Bool) (entries : List A) : Type 0 where
  pub before : List A
  pub entry : A
  pub after : List A
  pub split : entries ≡ before ++ entry ∷ after
  pub begun : begins entry ≡ true
  pub lasts : list_any ends after ≡ false
