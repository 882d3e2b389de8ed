-- WHERE A STREAM STANDS: what the far end hasn't accepted of it is pending on the link on which it runs, or parked; on
-- its way back it's pending on the link from which it comes, and what was offered since waits for the acknowledgement.
-- `here` is that list, `Stands` says that nothing of the stream is elsewhere; Codes.antt makes them part of what holds
-- all along. `none_back_by` is proved: of a stream that doesn't come back by a code nothing stands back by it, since in
-- a sound state a row that stands back is of a stream that does (`waiting_row`, case by case on the fate).
-- Filtered.antt takes that to the list. Declaring.antt and Returned.antt use it.
use Rattle.std.proofs.Common.{refl, ◌≡◌, ◌∙◌, ap, sym, ℕ, ◌==◌, Bool, true, false, List, [], ◌++◌}
use Rattle.set_events.specs.declared.answer.Fate.{Fate}
use Rattle.set_events.specs.declared.answer.Fate.TheVariants.{Waiting, Unacked, Acked, Held, Parked, Back, Discarded}
use Rattle.set_route.specs.declared.place.Place.{Place}
use Rattle.set_route.specs.declared.place.Place.TheVariants.{On, Changing, Nowhere}
use Rattle.set_route.specs.Routing.{Routing, place_of, home_of}
use Rattle.set_model.specs.Rows.{Row, is_back, standing}
use Rattle.set_model.specs.Sound.{IsSound, IsBackOf}
use Rattle.set_model.specs.State.{State}
use Rattle.pair_model.specs.Run.{Message, messages}
use Rattle.pair_changeover.specs.Pending.{pending, aside}
use Rattle.pair_streams.specs.Streams.{is_of, those_of}
use Rattle.pair_streams.proofs.Filtered.{picked, never_picked, each_so, of_stream}

-- what waits for the acknowledgement of a code
abbrev pub back_by : ℕ → State → List Message
back_by code s = messages (standing (is_back code) s.rows)

abbrev pub queue_at : Place → State → State → List Message
queue_at (On l) s f = pending l s f
queue_at (Changing to code via) s f = pending via s f ++ back_by code s
queue_at Nowhere s f = aside s

abbrev pub here : ℕ → State → State → List Message
here stream s f = those_of stream (queue_at (place_of stream s.routing) s f)

-- whether it runs on the link, or comes from it
abbrev pub runs_by : Place → ℕ → Bool
runs_by (On m) l = m == l
runs_by (Changing to code via) l = via == l
runs_by Nowhere l = false

abbrev pub runs_nowhere : Place → Bool
runs_nowhere (On m) = false
runs_nowhere (Changing to code via) = false
runs_nowhere Nowhere = true

abbrev pub waits_by : Place → ℕ → Bool
waits_by (On m) code = false
waits_by (Changing to c via) code = c == code
waits_by Nowhere code = false

-- IT STANDS THERE ALONE
pub record Stands (stream : ℕ) (place : Place) (s f : State) : Type 0 where
  pub alone : (l : ℕ) → runs_by place l ≡ false → those_of stream (pending l s f) ≡ []
  pub none_aside : runs_nowhere place ≡ false → those_of stream (aside s) ≡ []

-- a row that stands back is of a stream that comes back by its code
waiting_row : (routing : Routing) (stream code : ℕ) (row : Row) (fate : Fate)
    → waits_by (place_of stream routing) code ≡ false
    → is_of stream (record { number = row.number; body = row.body; users = row.users }) ≡ true → IsBackOf routing row fate
    → is_back code fate ≡ false
waiting_row routing stream code row (Back c) apart own b = go (c == code) refl
  where
    go : (e : Bool) → (c == code) ≡ e → (c == code) ≡ false
    go false e = e
    go true e =
        let is : place_of stream routing ≡ Changing (home_of c) c b.2 =
        ap (λ (n : ℕ). place_of n routing)
        (sym (of_stream stream (record { number = row.number; body = row.body; users = row.users }) own)) ∙ b.3 in
        let no : true ≡ false = sym e ∙ ap (λ (p : Place). waits_by p code) (sym is) ∙ apart in
        absurd cc
waiting_row routing stream code row (Waiting l) apart own b = refl
waiting_row routing stream code row (Unacked l) apart own b = refl
waiting_row routing stream code row (Acked l) apart own b = refl
waiting_row routing stream code row (Held l) apart own b = refl
waiting_row routing stream code row Parked apart own b = refl
waiting_row routing stream code row (Discarded cause) apart own b = refl

pub none_back_by : (stream code : ℕ) (s : State) → IsSound s → waits_by (place_of stream s.routing) code ≡ false → those_of stream (back_by code s) ≡ []
none_back_by stream code s sound apart =
    picked stream (λ row. is_back code row.fate) (λ row. false) s.rows
    (each_so (λ row. IsBackOf s.routing row row.fate)
    (λ row. is_of stream (record { number = row.number; body = row.body; users = row.users }) ≡ true → is_back code row.fate ≡ false)
    (λ row b own. waiting_row s.routing stream code row row.fate apart own b) s.rows sound.backs)
    ∙ ap (those_of stream) (never_picked s.rows)
