-- One answer more is counted.
use Rattle.std.proofs.Common.{refl, arith, ◌≡◌, ◌∙◌, ap, ap₂, sym, ◌+◌, ◌<◌, ◌≤◌, ◌^◌, ℕ, Bool, true, false, List, [], ◌∷◌, ◌++◌, length}
use Rattle.std.specs.Prelude.{if◌then◌else◌}
use Rattle.std.proofs.lemmas.List.{length-append}
use Rattle.set_events.specs.declared.answer.Answer.{Answer}
use Rattle.set_events.specs.declared.event.Actor.{Actor}
use Rattle.set_events.specs.declared.event.Actor.TheVariants.{Terminal}
use Rattle.set_events.specs.declared.event.Event.{Event}
use Rattle.bank_crew.specs.Seats.{link_in}
use Rattle.set_events.specs.declared.history.Entry.{Entry}
use Rattle.std.specs.Prelude.{Option}
use Rattle.bank_crew.specs.declared.carried.Carried.{Carried}
use Rattle.bank_crew.specs.declared.plan.Managed.{Managed}
use Rattle.bank_crew.specs.Carrying.{carried_in, carried_more}
use Rattle.bank_crew.specs.Managing.{are_marks, is_question, mark_of}
use Rattle.bank_crew.proofs.Bearing.{carried_on}
use Rattle.bank_crew.proofs.Marking.{marks_more}
use Rattle.bank_crew.specs.declared.report.Answered.{Answered}
use Rattle.bank_crew.specs.Counts.{answered_in, came_up, counted, counts_message, counts_up, taken_on}

if_up : (a b c : Bool) → (if a then true else (if b then true else c)) ≡ (if (if a then true else b) then true else c)
if_up true b c = refl
if_up false b c = refl

up_more : (link : ℕ) (entries : List Entry) (who : Actor) (event : Event) (answer : Answer)
    → came_up link (entries ++ record { who = who; event = event; answer = answer } ∷ []) ≡ (if came_up link entries then true else counts_up link event answer)
up_more link [] who event answer = last (counts_up link event answer)
  where
    last : (b : Bool) → (if b then true else false) ≡ b
    last true = refl
    last false = refl
up_more link (e ∷ entries) who event answer =
    ap (λ (b : Bool). if counts_up link e.event e.answer then true else b) (up_more link entries who event answer)
    ∙ if_up (counts_up link e.event e.answer) (came_up link entries) (counts_up link event answer)

one_more : (b : Bool) (n : ℕ) → (if b then 1 else 0) + n ≡ (if b then n + 1 else n)
one_more true n = omega arith
one_more false n = omega arith

taken_more : (link : ℕ) (entries : List Entry) (who : Actor) (event : Event) (answer : Answer)
    → taken_on link (entries ++ record { who = who; event = event; answer = answer } ∷ []) ≡ (if counts_message link event answer then 1 else 0) + taken_on link entries
taken_more link [] who event answer = refl
taken_more link (e ∷ entries) who event answer =
    let rest = taken_more link entries who event answer in
    omega (arith, rest)

pub answered_more : (link : ℕ) (entries more : List Entry) (who : Actor) (event : Event) (answer : Answer) (old new : Answered) → old ≡ answered_in link entries → new ≡ counted link event answer old
    → more ≡ entries ++ record { who = who; event = event; answer = answer } ∷ [] → new ≡ answered_in link more
answered_more link entries more who event answer old new before after e =
    after ∙ ap (counted link event answer) before
    ∙ ap₂ (λ (up : Bool) (many : ℕ). record { came_up = up; messages = many }) (sym (up_more link entries who event answer))
    (sym (taken_more link entries who event answer ∙ one_more (counts_message link event answer) (taken_on link entries)))
    ∙ ap (answered_in link) (sym e)

few_taken : (link : ℕ) (entries : List Entry) → taken_on link entries ≤ length entries
few_taken link [] = omega arith
few_taken link (e ∷ entries) = one (counts_message link e.event e.answer) (few_taken link entries)
  where
    one : (b : Bool) → taken_on link entries ≤ length entries → (if b then 1 else 0) + taken_on link entries ≤ length (e ∷ entries)
    one true rest = omega (arith, rest)
    one false rest = omega (arith, rest)

-- there are no more of them than calls
pub fits : (link : ℕ) (entries more : List Entry) (entry : Entry) (old : Answered) (calls : ℕ) → old ≡ answered_in link entries → more ≡ entries ++ entry ∷ [] → calls ≡ length more → calls < 2 ^ 64 → old.messages + 1 < 2 ^ 64
fits link entries more entry old calls is e many few =
    let messages = ap (λ (a : Answered). a.messages) is in
    omega (arith, messages, few_taken link entries, ap length e, length-append entries (entry ∷ []), many, few)

-- A STEP of a terminal is counted.
module _ (who : Actor) (event : Event) (answer : Answer) (old new : List Entry) (counts : Answered) (made : new ≡ old ++ record { who = who; event = event; answer = answer } ∷ []) (before : counts ≡ answered_in (link_in who) old) where
  pub step_fits : (many : ℕ) → many ≡ length new → many < 2 ^ 64 → counts.messages + 1 < 2 ^ 64
  step_fits many all few = fits (link_in who) old new (record { who = who; event = event; answer = answer }) counts many before made all few

  pub step_counted : (who' : Actor) (link : ℕ) (after : Answered) → who' ≡ who → who ≡ Terminal link → after ≡ counted link event answer counts → after ≡ answered_in (link_in who') new
  step_counted who' link after same is_link count =
      let here : link_in who ≡ link = ap link_in is_link in
      answered_more (link_in who) old new who event answer counts after before (count ∙ ap (λ n. counted n event answer counts) (sym here)) made
      ∙ ap (λ (w : Actor). answered_in (link_in w) new) (sym same)

  pub step_carried : (managed : Option Managed) (carried carried' : Carried) (who' : Actor) (link : ℕ) → who' ≡ who → who ≡ Terminal link → carried ≡ carried_in managed (link_in who) old → carried' ≡ carried_more managed link event answer carried
      → carried' ≡ carried_in managed (link_in who') new
  step_carried managed carried carried' who' link same is_link was more =
      let here : link ≡ link_in who = sym (ap link_in is_link) in
      more ∙ ap (carried_more managed link event answer) was ∙ ap (λ n. carried_more managed n event answer (carried_in managed (link_in who) old)) here
      ∙ carried_on (link_in who) who event answer managed old ∙ ap (carried_in managed (link_in who)) (sym made) ∙ ap (λ (w : Actor). carried_in managed (link_in w) new) (sym same)

  pub step_marked : (marks marks' : List ℕ) (of_turn late : Bool) (who' : Actor) → who' ≡ who → are_marks (link_in who) marks old ≡ true → (of_turn ≡ false → is_question (link_in who) event ≡ true) → marks' ≡ marks ++ mark_of of_turn late ∷ []
      → are_marks (link_in who') marks' new ≡ true
  step_marked marks marks' of_turn late who' same all asked more =
      ap (λ (w : Actor). are_marks (link_in w) marks' new) same ∙ ap₂ (are_marks (link_in who)) more made
      ∙ marks_more (link_in who) old marks (record { who = who; event = event; answer = answer }) of_turn late all asked
