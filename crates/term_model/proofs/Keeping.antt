-- What a talk asks and what comes of it, whatever is answered: from each part to the whole.
use Rattle.std.proofs.Common.{refl, sym, subst, ◌≡◌, Bool, true, false, List, [], ◌∷◌, if◌then◌else◌}
use Rattle.set_events.specs.declared.answer.Answer.{Answer}
use Rattle.set_events.specs.declared.event.Event.{Event}
use Rattle.set_events.specs.declared.history.Entry.{Entry}
use Rattle.term_model.specs.Talk.{Talk, done, ask, and_then, in_turn, Went}
use Rattle.term_model.specs.TurnLaws.{AllAsked}

-- each event that can be asked is such, and whatever comes of the talk is so
abbrev pub Keeps : {A : Type 0} → (Event → Type 0) → (A → Type 0) → Talk A → Type 0
Keeps such so (done a) = so a
Keeps such so (ask event more) = such event × ((answer : Answer) → Keeps such so (more answer))

pub then_keeps : {A B : Type 0} (such : Event → Type 0) (so : A → Type 0) (last : B → Type 0) (talk : Talk A) (next : A → Talk B)
    → Keeps such so talk → ((a : A) → so a → Keeps such last (next a)) → Keeps such last (and_then talk next)
then_keeps such so last (done a) next kept later = later a kept
then_keeps such so last (ask event more) next kept later =
    (kept.0, λ answer. then_keeps such so last (more answer) next (kept.1 answer) later)

-- each of several steps keeps it
abbrev pub AllKeep : {A : Type 0} → (Event → Type 0) → (A → Type 0) → List (A → Talk A) → Type 0
AllKeep such so [] = Unit {0}
AllKeep such so (step ∷ steps) = ((a : _) → so a → Keeps such so (step a)) × AllKeep such so steps

pub in_turn_keeps : {A : Type 0} (such : Event → Type 0) (so : A → Type 0) (steps : List (A → Talk A)) (a : A)
    → AllKeep such so steps → so a → Keeps such so (in_turn steps a)
in_turn_keeps such so [] a all kept = kept
in_turn_keeps such so (step ∷ steps) a all kept =
    then_keeps such so so (step a) (λ b. in_turn steps b) (all.0 a kept) (λ b later. in_turn_keeps such so steps b all.1 later)

pub if_keeps : {A : Type 0} (such : Event → Type 0) (so : A → Type 0) (b : Bool) (x y : Talk A)
    → (b ≡ true → Keeps such so x) → (b ≡ false → Keeps such so y) → Keeps such so (if b then x else y)
if_keeps such so true x y where_true where_false = where_true refl
if_keeps such so false x y where_true where_false = where_false refl

-- what went was such, and is so
pub went_asked : {A : Type 0} (such : Event → Type 0) (so : A → Type 0) (talk : Talk A) (entries : List Entry) (b : A)
    → Keeps such so talk → Went talk entries b → AllAsked such entries
went_asked such so (done a) [] b kept went = tt
went_asked such so (done a) (entry ∷ entries) b kept went = absurd went
went_asked such so (ask event more) [] b kept went = absurd went
went_asked such so (ask event more) (entry ∷ entries) b kept went =
    (subst such (sym went.0) kept.0, went_asked such so (more entry.answer) entries b (kept.1 entry.answer) went.1)

pub went_kept : {A : Type 0} (such : Event → Type 0) (so : A → Type 0) (talk : Talk A) (entries : List Entry) (b : A)
    → Keeps such so talk → Went talk entries b → so b
went_kept such so (done a) [] b kept went = subst so (sym went) kept
went_kept such so (done a) (entry ∷ entries) b kept went = absurd went
went_kept such so (ask event more) [] b kept went = absurd went
went_kept such so (ask event more) (entry ∷ entries) b kept went =
    went_kept such so (more entry.answer) entries b (kept.1 entry.answer) went.1
