-- Each step is answered by what its event can have.
use Rattle.std.proofs.Common.{arith, ◌≡◌, ◌∙◌, ◌+◌, ◌*◌, ap, refl, ℕ, Bool, true, false, List, Option, Some, None, [], ◌∷◌}
use Rattle.std.specs.Prelude.{if◌then◌else◌}
use Rattle.set_events.specs.declared.event.Actor.{Actor}
use Rattle.set_model.specs.History.{LinkSet, IsStep}
use Rattle.set_model.specs.Rows.{Fate, place}
use Rattle.set_model.specs.State.{open_link, LinkState, State, has_phase_up, link_count}
use Rattle.set_model.specs.Changeover.{declared_from, redeclared_from, released_from, some_declare, some_in_use, some_overdue}
use Rattle.set_model.specs.declared.phase.Phase.{Phase}
use Rattle.set_model.specs.declared.phase.Phase.TheVariants.{Down, Settled, Up}
use Rattle.set_model.specs.Step.{comes_back, Answer, BackTimeout, Done, DownBlind, DownEvent, Event, Find, Heard, Next, NoAnswer, Timed, NoSuchLink, NotUp, Nothing, Offer, Outcome, Reserved, Redeclare, Restore, SetRefusal, StreamFull, Take, Test, TooLong, TooShort, UpEvent, controls, found, gives_up, timed, times_out, in_service, is_heard, offered, on_link, refused, rises, step, taken, with_known}
use Rattle.set_shared.specs.Asking.{MayAnswer, may_answer, may_refuse}

either : (event : Event) (test : Bool) (first second : Outcome) → may_answer event first.answer ≡ true → may_answer event second.answer ≡ true → may_answer event (if test then first else second).answer ≡ true
either event true first second a b = a
either event false first second a b = b

known : (event : Event) (link : Option LinkState) (s : State) (outcome : LinkState → Outcome) → may_refuse event NoSuchLink ≡ true → ((state : LinkState) → may_answer event (outcome state).answer ≡ true) → may_answer event (with_known link s outcome).answer ≡ true
known event None s outcome none some = none
known event (Some state) s outcome none some = some state

of_link : (event : Event) (number : ℕ) (s : State) (outcome : LinkState → Outcome) → may_refuse event NoSuchLink ≡ true → ((state : LinkState) → may_answer event (outcome state).answer ≡ true) → may_answer event (on_link number s outcome).answer ≡ true
of_link event number s outcome none some = known event _ s outcome none some

of_link_up : (event : Event) (number : ℕ) (s : State) (outcome : LinkState → Outcome) → may_refuse event NoSuchLink ≡ true → may_refuse event NotUp ≡ true → ((state : LinkState) → may_answer event (outcome state).answer ≡ true)
    → may_answer event (in_service number s outcome).answer ≡ true
of_link_up event number s outcome none not_up some = of_link event number s _ none (λ state. either event (has_phase_up state.phase) (outcome state) (refused s NotUp) (some state) not_up)

of_offer : (body : List ℕ) (s : State) (short long reserved full : Bool)
    → may_answer (Offer body) (offered (if short then Some TooShort else (if long then Some TooLong else (if reserved then Some Reserved else (if full then Some StreamFull else None)))) s body).answer ≡ true
of_offer body s true long reserved full = refl
of_offer body s false true reserved full = refl
of_offer body s false false true full = refl
of_offer body s false false false true = refl
of_offer body s false false false false = refl

of_take : (inbox : List (List ℕ)) (s : State) → may_answer Take (taken inbox s).answer ≡ true
of_take [] s = refl
of_take (body ∷ rest) s = refl

gone_or_never : (number : ℕ) (gone : Bool) → may_refuse (Find number) (if gone then SetRefusal.Finished else SetRefusal.UnknownNumber) ≡ true
gone_or_never number true = refl
gone_or_never number false = refl

of_find : (number : ℕ) (fate : Option Fate) (s : State) → may_answer (Find number) (found fate number s).answer ≡ true
of_find number (Some fate) s = refl
of_find number None s = gone_or_never number _

of_up : (number : ℕ) (s : State) (phase : Phase) → may_answer (UpEvent number) (rises number s phase).answer ≡ true
of_up number s Up = refl
of_up number s Down = refl
of_up number s Settled = refl

of_no_answer : (number : ℕ) (s : State) (state : LinkState) (phase : Phase) → may_answer (NoAnswer number) (gives_up number s state phase).answer ≡ true
of_no_answer number s state Up = refl
of_no_answer number s state Down = refl
of_no_answer number s state Settled = refl

of_time : (number : ℕ) (order : Option Fate) (s : State) (state : LinkState) → may_answer (Timed number) (timed order number s state).answer ≡ true
of_time number order s state = grind arith

of_timed : (number : ℕ) (s : State) (state : LinkState) (phase : Phase) → may_answer (Timed number) (times_out number s state phase).answer ≡ true
of_timed number s state Up = refl
of_timed number s state Down = of_time number (place state.order s.rows) s state
of_timed number s state Settled = refl

answers : (s : State) (event : Event) → may_answer event (step s event).answer ≡ true
unfolding step
answers s (Offer body) = of_offer body s _ _ _ _
answers s Take = of_take s.inbox s
answers s (Find number) = of_find number (place number s.rows) s
answers s (Next link) = of_link_up (Next link) link s _ refl refl (λ state. refl)
answers s (Heard link unit) = of_link_up (Heard link unit) link s _ refl refl (λ state. either (Heard link unit) (is_heard s.settings.profile unit) (controls unit link s state) (refused s Nothing) refl refl)
answers s (UpEvent link) = of_link (UpEvent link) link s _ refl (λ state. of_up link s state.phase)
answers s (DownEvent link) = of_link_up (DownEvent link) link s _ refl refl (λ state. refl)
answers s (DownBlind link) = of_link_up (DownBlind link) link s _ refl refl (λ state. refl)
answers s (NoAnswer link) = of_link (NoAnswer link) link s _ refl (λ state. of_no_answer link s state state.phase)
answers s (Timed link) = of_link (Timed link) link s _ refl (λ state. of_timed link s state state.phase)
answers s (Restore link) = of_link_up (Restore link) link s _ refl refl (λ state. either (Restore link) (open_link state) (comes_back link s) (refused s NotUp) (either (Restore link) (some_declare link 0 (link_count s) s) (record { answer = Done; state = declared_from link 0 (link_count s) s }) (refused s Nothing) refl refl) refl)
answers s (Redeclare link) = of_link (Redeclare link) link s _ refl (λ state. either (Redeclare link) (some_overdue (16 * link + 0) 16 s) (record { answer = Done; state = redeclared_from (16 * link + 0) 16 s }) (refused s Nothing) refl refl)
answers s (BackTimeout link) = of_link (BackTimeout link) link s _ refl (λ state. either (BackTimeout link) (some_in_use (16 * link + 0) 16 s) (record { answer = Done; state = released_from (16 * link + 0) 16 s }) (refused s Nothing) refl refl)
answers s (Test link) = of_link_up (Test link) link s _ refl refl (λ state. refl)

pub answered : (old : LinkSet) (who : Actor) (event : Event) (answer : Answer) (new : LinkSet) → IsStep old who event answer new → MayAnswer event answer
answered old who event answer new is = ap (may_answer event) is.answer_is ∙ answers old.state event
