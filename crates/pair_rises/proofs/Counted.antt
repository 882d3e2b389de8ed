-- A LIFE THAT AN END MISSES IS COUNTED (`every_missed_life_is_counted`): a unit that it hears brought a changeover order about
-- a link that it had settled, and the set counts that (`counted`). Any other move leaves each link as it stands, or
-- begins a life, or joins one.
use Rattle.std.proofs.Common.{refl, arith, ◌≡◌, ◌∙◌, ap, sym, subst, ℕ, ◌==◌, Bool, true, false, List, ◌∷◌, length, Option, Some, None, cond}
use Rattle.std.proofs.lemmas.Bool.{eqb-true}
use Rattle.l2_units.specs.declared.unit.Unit.{Unit as SignalUnit}
use Rattle.l3_orders.specs.declared.order.Order.{Order}
use Rattle.l3_orders.specs.declared.order.Order.TheVariants.{Coo, Coa, Cbd, Cba, Eco, Eca}
use Rattle.l3_orders.specs.Grammar.{order_of}
use Rattle.set_events.specs.declared.answer.Answer.{Answer}
use Rattle.set_events.specs.declared.config.Method.{Method}
use Rattle.set_events.specs.declared.event.Event.TheVariants.{Heard as HeardEvent}
use Rattle.set_model.specs.declared.phase.Phase.TheVariants.{Up, Settled}
use Rattle.set_model.specs.Changeover.{one_later}
use Rattle.set_model.specs.Sound.{IsSound}
use Rattle.set_model.specs.State.{LinkState, State, late_at, late_in}
use Rattle.set_model.specs.Step.{Outcome as SetOutcome, brought, takes, part_in, controlled, is_heard, step}
use Rattle.set_model.proofs.Walk.{IsAt}
use Rattle.pair_steps.specs.declared.step.End.{End}
use Rattle.pair_steps.specs.declared.step.End.TheVariants.{A, B}
use Rattle.pair_steps.specs.declared.step.Shown.{Shown}
use Rattle.pair_steps.specs.declared.step.Shown.TheVariants.{Answered, Lost}
use Rattle.pair_steps.specs.declared.step.Step.{Step}
use Rattle.pair_steps.specs.declared.step.Step.TheVariants.{Act, Emit, Arrive, Lose, Together, Inject}
use Rattle.pair_model.specs.World.{World, Outcome, shows, impossible, exhausted, with_end, with_line, answer_to, after, carried_out}
use Rattle.pair_model.specs.Promises.{IsOneMethod}
use Rattle.pair_model.specs.Run.{Stage, passed, OnShows}
use Rattle.pair_model.proofs.Rising.{settled_at}
use Rattle.pair_rises.specs.Counted.{IsCounted, EveryMissedLifeIsCounted}
use Rattle.pair_rises.specs.Rises.{Cover, inside, awaited, missed, is_covered, Rising, opening, told_at, open_at, is_first, risen_at, is_order, takes_order, about_of, order_about, missed_by, missed_at, covers_heard, moved, moved_on}
use Rattle.pair_rises.specs.declared.moves.Move.{Move}
use Rattle.pair_rises.specs.declared.moves.Move.TheVariants.{Step as MoveStep, Rise, Fill}
use Rattle.pair_rises.proofs.Arriving.{heard_a, heard_b, Cases, arrives}
use Rattle.pair_rises.proofs.Brought.{about_in, brought_in}
use Rattle.pair_rises.proofs.Covers.{told_each}
use Rattle.pair_rises.proofs.Heard as under_veils
use Rattle.pair_rises.proofs.Late as late
use Rattle.pair_rises.proofs.Runs.{Holds, each_along, first_holds}
use Rattle.pair_rises.proofs.Veils.{Fits, seen_length}
use Rattle.pair_rises.proofs.Worlds.{IsNoArrival, none_told}

not_both : {X : Type 0} (c : Cover) → c ≡ awaited → c ≡ missed → X
not_both c e f = absurd (let no : awaited ≡ missed = sym e ∙ f in cc)

-- AT ONE END
module _ (ox : ℕ → Cover) (s : State) (sound : IsSound s) (fits : Fits ox s) (k : ℕ) (unit : SignalUnit) (rest : List SignalUnit)
    (link : LinkState) (at : IsAt k link Up s) where
  abbrev answer_here : Answer
  answer_here = (step s (HeardEvent k unit)).answer

  abbrev taken : Bool
  taken = takes_order (Answered answer_here)

  abbrev about : Option ℕ
  about = order_about s.settings.profile unit

  abbrev Counts : ℕ → Type 0
  Counts n = late_at n (step s (HeardEvent k unit)).state ≡ one_later (late_at n s)

  module _ (n : ℕ) (waits : ox n ≡ awaited) where
    was : (l : LinkState) × IsAt n l Settled s
    was = settled_at n s (fits n (ap is_covered waits))

    late_was : one_later was.0.late ≡ one_later (late_at n s)
    late_was = ap one_later (sym (ap late_in was.1.there))

    -- by its order
    by_order : is_heard s.settings.profile unit ≡ true → (body : List ℕ) → brought (part_in unit k link s).accept unit ≡ Some body → (o : Option Order)
        → order_of s.settings.profile body ≡ o → about_of o ≡ Some n → Counts n
    by_order fit body some (Some (Coo m fsn)) told e =
        let same : m ≡ n = cc in
        late.counts_coo k n s sound was.0 was.1 link at unit fit body some fsn (told ∙ ap (λ (x : ℕ). Some (Coo x fsn)) same) ∙ late_was
    by_order fit body some (Some (Eco m)) told e =
        let same : m ≡ n = cc in
        late.counts_eco k n s sound was.0 was.1 link at unit fit body some (told ∙ ap (λ (x : ℕ). Some (Eco x)) same) ∙ late_was
    by_order fit body some (Some (Coa m fsn)) told e = absurd cc
    by_order fit body some (Some (Eca m)) told e = absurd cc
    by_order fit body some (Some (Cbd m code)) told e = absurd cc
    by_order fit body some (Some (Cba m code)) told e = absurd cc
    by_order fit body some None told e = absurd cc

    by_body : is_heard s.settings.profile unit ≡ true → (o : Option (List ℕ)) → brought (part_in unit k link s).accept unit ≡ o → taken ≡ true → about ≡ Some n → Counts n
    by_body fit None e shown is =
        let answer = ap (λ (o : SetOutcome). o.answer) (under_veils.controls_here ox s fits k link at unit fit) in
        let none : taken ≡ false = ap (λ (a : Answer). takes_order (Answered a)) answer ∙ ap (λ (o : Option (List ℕ)). is_order (takes o (controlled unit k s link)).took) e in
        absurd (let no : true ≡ false = sym shown ∙ none in cc)
    by_body fit (Some body) e shown is =
        by_order fit body e (order_of s.settings.profile body) refl
        (ap about_of (sym (brought_in s.settings.profile (part_in unit k link s).accept unit body e)) ∙ sym (about_in s.settings.profile unit) ∙ is)

    by_fit : (b : Bool) → is_heard s.settings.profile unit ≡ b → taken ≡ true → about ≡ Some n → Counts n
    by_fit true fit shown is = by_body fit (brought (part_in unit k link s).accept unit) refl shown is
    by_fit false unfit shown is =
        let none : taken ≡ false = ap (λ (a : Answer). takes_order (Answered a)) (under_veils.answer_refused ox s fits k link at unit unfit) in
        absurd (let no : true ≡ false = sym shown ∙ none in cc)

    pub counted : covers_heard s.settings.profile (unit ∷ rest) (Answered answer_here) ox n ≡ missed → Counts n
    counted = go taken refl about refl
      where
        here : (m : ℕ) → (b : Bool) → (n == m) ≡ b → cond b (missed_by (ox n)) (ox n) ≡ missed → taken ≡ true → about ≡ Some m → Counts n
        here m false d f shown is = not_both (ox n) waits f
        here m true d f shown is = by_fit (is_heard s.settings.profile unit) refl shown (is ∙ ap (λ (x : ℕ). Some x) (sym (eqb-true n m d)))

        go : (b : Bool) → taken ≡ b → (o : Option ℕ) → about ≡ o → missed_at (cond b o None) ox n ≡ missed → Counts n
        go false shown o is f = not_both (ox n) waits f
        go true shown None is f = not_both (ox n) waits f
        go true shown (Some m) is f = here m (n == m) refl f shown is

-- EACH MOVE
all_shows : (P : Shown → World → Type 0) (outcome : Outcome) → ((shown : Shown) (new : World) → P shown new) → OnShows outcome P
all_shows P (shows shown new) each = each shown new
all_shows P impossible each = tt
all_shows P exhausted each = tt

-- a life begins, or is joined
told_not : (k : ℕ) (is : Cover) (told : ℕ → Cover) → (is ≡ missed → ⊥) → (l : ℕ) → told l ≡ awaited → told_at k is told l ≡ missed → ⊥
told_not k is told never = told_each k is told (λ l c. told l ≡ awaited → c ≡ missed → ⊥) (λ e f. never f) (λ l d e f. not_both (told l) e f)

module _ (emergencies : Bool) (ma mb : Method) (one : IsOneMethod ma mb) where
  module _ (g : Rising) (h : Holds emergencies ma mb one g) where
    abbrev w : World
    w = g.stage.world

    abbrev Counts_at : Move → Outcome → Type 0
    Counts_at move outcome = OnShows outcome (λ shown new. IsCounted g (moved_on g move shown new))

    -- where each link stands as it did
    stays : (then : Rising) → ((end : End) (l : ℕ) → open_at then end l ≡ open_at g end l) → IsCounted g then
    stays then same = λ end l e f. not_both (open_at g end l) e (sym (same end l) ∙ f)

    risen : (first : Bool) (end : End) (k : ℕ) (new : World) → IsCounted g (risen_at first end k new g)
    risen true A k new A l e f = absurd (told_not k inside g.open_a (λ x. absurd cc) l e f)
    risen true A k new B l e f = absurd (told_not k awaited g.open_b (λ x. absurd cc) l e f)
    risen true B k new A l e f = absurd (told_not k awaited g.open_a (λ x. absurd cc) l e f)
    risen true B k new B l e f = absurd (told_not k inside g.open_b (λ x. absurd cc) l e f)
    risen false A k new A l e f = absurd (told_not k inside g.open_a (λ x. absurd cc) l e f)
    risen false A k new B l e f = not_both (g.open_b l) e f
    risen false B k new A l e f = not_both (g.open_a l) e f
    risen false B k new B l e f = absurd (told_not k inside g.open_b (λ x. absurd cc) l e f)

    -- a unit arrives
    cases : Cases g (λ end k shown then. IsCounted g then)
    cases = record {
      hears_a = λ k unit rest few front link at. heard_at_a k unit rest link at;
      loses_a = λ k unit rest few front. lost_at_a k unit rest;
      hears_b = λ k unit rest few front link at. heard_at_b k unit rest link at;
      loses_b = λ k unit rest few front. lost_at_b k unit rest;
    }
      where
        heard_at_a : (k : ℕ) (unit : SignalUnit) (rest : List SignalUnit) (link : LinkState) → IsAt k link Up w.a.state
            → IsCounted g (heard_a g k (unit ∷ rest) (Answered (answer_to w.a (HeardEvent k unit))) (with_end (with_line w A k rest) A (after w.a (HeardEvent k unit))))
        heard_at_a k unit rest link at A l e f = counted g.open_a w.a.state h.sound_x h.fit_x k unit rest link at l e f
        heard_at_a k unit rest link at B l e f = not_both (g.open_b l) e f

        lost_at_a : (k : ℕ) (unit : SignalUnit) (rest : List SignalUnit) → IsCounted g (heard_a g k (unit ∷ rest) Lost (with_line w A k rest))
        lost_at_a k unit rest A l e f = not_both (g.open_a l) e f
        lost_at_a k unit rest B l e f = not_both (g.open_b l) e f

        heard_at_b : (k : ℕ) (unit : SignalUnit) (rest : List SignalUnit) (link : LinkState) → IsAt k link Up w.b.state
            → IsCounted g (heard_b g k (unit ∷ rest) (Answered (answer_to w.b (HeardEvent k unit))) (with_end (with_line w B k rest) B (after w.b (HeardEvent k unit))))
        heard_at_b k unit rest link at A l e f = not_both (g.open_a l) e f
        heard_at_b k unit rest link at B l e f = counted g.open_b w.b.state h.sound_y h.fit_y k unit rest link at l e f

        lost_at_b : (k : ℕ) (unit : SignalUnit) (rest : List SignalUnit) → IsCounted g (heard_b g k (unit ∷ rest) Lost (with_line w B k rest))
        lost_at_b k unit rest A l e f = not_both (g.open_a l) e f
        lost_at_b k unit rest B l e f = not_both (g.open_b l) e f

    same_links : length w.b.state.links ≡ length w.a.state.links
    same_links = omega (arith, h.links.far_links, seen_length g.open_a w.a.state, seen_length g.open_b w.b.state)

    same_stands : (stage : Stage) (end : End) (l : ℕ) → open_at (record g { stage = stage }) end l ≡ open_at g end l
    same_stands stage A l = refl
    same_stands stage B l = refl

    other_counts : (step : Step) → IsNoArrival step → Counts_at (MoveStep step) (carried_out w step)
    other_counts step other = all_shows _ (carried_out w step) (λ shown new. subst (IsCounted g) (sym (none_told g step shown new other))
        (stays (record g { stage = passed g.stage step shown new }) (same_stands (passed g.stage step shown new))))

    step_counts : (step : Step) → Counts_at (MoveStep step) (carried_out w step)
    step_counts (Act end event) = other_counts (Act end event) tt
    step_counts (Emit end k) = other_counts (Emit end k) tt
    step_counts (Arrive end k) = arrives g (λ end k shown then. IsCounted g then) same_links cases end k
    step_counts (Lose end k place) = other_counts (Lose end k place) tt
    step_counts (Together k) = other_counts (Together k) tt
    step_counts (Inject end k unit) = other_counts (Inject end k unit) tt

    move_counts : (move : Move) → Counts_at move (moved w move)
    move_counts (MoveStep step) = step_counts step
    move_counts (Rise end k) = all_shows _ (moved w (Rise end k)) (λ shown new. risen (is_first w end k) end k new)
    move_counts (Fill end k) = all_shows _ (moved w (Fill end k)) (λ shown new. stays (moved_on g (Fill end k) shown new) (same_stands (record g.stage { world = new })))

pub every_missed_life : EveryMissedLifeIsCounted
every_missed_life em a b moves run =
    each_along em a.method b.method run.one_method (λ before move shown after. IsCounted before after)
    (λ g h move plain. move_counts em a.method b.method run.one_method g h move)
    moves (opening a b) (first_holds em a b run.one_method run.links run.profiles) run.moves_are run.may
