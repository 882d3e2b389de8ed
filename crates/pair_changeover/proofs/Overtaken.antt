-- NO ORDER IS OVERTAKEN where each order is answered, with emergencies or without: where a link is up at an end no
-- order about it stands there. So nothing is discarded before a unit is sent (`nothing_cleared`), and Next of a link in
-- service is just `next` (`sends_next`). What waits for a link is pending on it (`first_pending`), and if its first
-- were an order about a link that is up, that would stand against `none_up` of what holds of the orders. Only who is
-- among joined lists takes an induction. Used by Whole.antt, and by pair_streams's Acting.antt and Counting.antt.
use Rattle.std.proofs.Common.{refl, ◌≡◌, ◌∙◌, ap, ℕ, Bool, true, false, List, [], ◌∷◌, ◌++◌, drop, Option, Some, None, inl}
use Rattle.l3_orders.specs.declared.order.Order.{Order}
use Rattle.l3_orders.specs.declared.order.Order.TheVariants.{Coo, Coa, Cbd, Cba, Eco, Eca}
use Rattle.l3_orders.specs.Grammar.{order_of}
use Rattle.l3_orders.proofs.Texts.{any_of}
use Rattle.set_events.specs.declared.event.Event.TheVariants.{Next}
use Rattle.set_model.specs.declared.phase.Phase.TheVariants.{Up}
use Rattle.set_model.specs.Changeover.{cleared, is_overtaken, leading, overtakes}
use Rattle.set_model.specs.Rows.{Row, unack, wait, held}
use Rattle.set_model.specs.State.{LinkState, State}
use Rattle.set_model.specs.Step.{next, step}
use Rattle.set_model.proofs.Walk.{IsAt}
use Rattle.pair_model.specs.Run.{Message, messages}
use Rattle.pair_model.proofs.Sending.{next_is, overtaken}
use Rattle.pair_changeover.proofs.Changes.{Both}
use Rattle.pair_changeover.proofs.Table.{joined}
use Rattle.pair_changeover.proofs.Views.{pending, queue, Among, among_front, among_behind, stands_on}

-- what waits is pending
abbrev message_of : Row → Message
message_of row = record { number = row.number; body = row.body; users = row.users }

first_pending : (count k : ℕ) (rows rest : List Row) (row : Row) → wait k rows ≡ row ∷ rest → Among (message_of row) (queue count k rows)
first_pending count k rows rest row e =
    let here : Among (message_of row) (messages (wait k rows)) = rw e (inl refl) in
    let sent = drop count (unack k rows) in
    rw (joined (sent ++ wait k rows) (held k rows), joined sent (wait k rows))
    (among_front (message_of row) (messages sent ++ messages (wait k rows)) (messages (held k rows))
    (among_behind (message_of row) (messages sent) (messages (wait k rows)) here))

module _ {emergencies : Bool} (k : ℕ) (s f : State) (o : Both emergencies s f) where
  -- an order about a link that is up stands nowhere
  not_overtaken : (row : Row) → Among (message_of row) (pending k s f) → (told : Option Order)
      → order_of s.settings.profile row.body ≡ told → overtakes s told ≡ true → ⊥
  not_overtaken row a (Some (Coo link fsn)) e up =
      o.near.none_up link up (message_of row) (stands_on k a)
      (record { order = Coo link fsn; is = any_of s.settings.profile row.body (Coo link fsn) e; over = tt; of = refl })
  not_overtaken row a (Some (Eco link)) e up =
      o.near.none_up link up (message_of row) (stands_on k a)
      (record { order = Eco link; is = any_of s.settings.profile row.body (Eco link) e; over = tt; of = refl })
  not_overtaken row a (Some (Coa link fsn)) e up = absurd cc
  not_overtaken row a (Some (Eca link)) e up = absurd cc
  not_overtaken row a (Some (Cbd link code)) e up = absurd cc
  not_overtaken row a (Some (Cba link code)) e up = absurd cc
  not_overtaken row a None e up = absurd cc

  none_first : (waiting : List Row) → wait k s.rows ≡ waiting → leading (is_overtaken s) waiting ≡ 0
  none_first [] e = refl
  none_first (row ∷ rest) e = go (is_overtaken s row) refl
    where
      go : (b : Bool) → is_overtaken s row ≡ b → leading (is_overtaken s) (row ∷ rest) ≡ 0
      go true up = absurd (not_overtaken row (first_pending _ k s.rows rest row e) (order_of s.settings.profile row.body) refl up)
      go false up = rw up refl

  pub nothing_cleared : cleared k s ≡ s
  nothing_cleared = let none : overtaken k s ≡ 0 = none_first (wait k s.rows) refl in rw none refl

  pub sends_next : (link : LinkState) → IsAt k link Up s → step s (Next k) ≡ next k s link
  sends_next link at = next_is k link s at ∙ ap (λ (t : State). next k t link) nothing_cleared
