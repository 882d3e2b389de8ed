-- A TALK WITH A DOOR OF WHICH SOMETHING IS KNOWN: what is asked is such, and where each answer is so, what comes of the
-- talk is so; from each part to the whole. As term_model's Keeping.antt has it of any answers.
use Rattle.std.proofs.Common.{refl, ◌≡◌, Bool, true, false, List, [], ◌∷◌, if◌then◌else◌}
use Rattle.set_events.specs.declared.answer.Answer.{Answer}
use Rattle.set_events.specs.declared.event.Event.{Event}
use Rattle.term_model.specs.Talk.{Talk, done, ask, and_then, in_turn}

module _ (such : Event → Type 0) (gives : Answer → Type 0) where
  abbrev pub KeepsBy : {T : Type 0} → (T → Type 0) → Talk T → Type 0
  KeepsBy so (done a) = so a
  KeepsBy so (ask event more) = such event × ((answer : Answer) → gives answer → KeepsBy so (more answer))

  pub then_by : {T U : Type 0} (so : T → Type 0) (last : U → Type 0) (talk : Talk T) (next : T → Talk U)
      → KeepsBy so talk → ((a : T) → so a → KeepsBy last (next a)) → KeepsBy last (and_then talk next)
  then_by so last (done a) next kept later = later a kept
  then_by so last (ask event more) next kept later =
      (kept.0, λ answer is. then_by so last (more answer) next (kept.1 answer is) later)

  abbrev pub AllKeepBy : {T : Type 0} → (T → Type 0) → List (T → Talk T) → Type 0
  AllKeepBy so [] = Unit {0}
  AllKeepBy so (step ∷ steps) = ((a : _) → so a → KeepsBy so (step a)) × AllKeepBy so steps

  pub in_turn_by : {T : Type 0} (so : T → Type 0) (steps : List (T → Talk T)) (a : T) → AllKeepBy so steps → so a → KeepsBy so (in_turn steps a)
  in_turn_by so [] a all kept = kept
  in_turn_by so (step ∷ steps) a all kept =
      then_by so so (step a) (λ b. in_turn steps b) (all.0 a kept) (λ b later. in_turn_by so steps b all.1 later)

  pub if_by : {T : Type 0} (so : T → Type 0) (b : Bool) (x y : Talk T) → (b ≡ true → KeepsBy so x) → (b ≡ false → KeepsBy so y)
      → KeepsBy so (if b then x else y)
  if_by so true x y where_true where_false = where_true refl
  if_by so false x y where_true where_false = where_false refl
