-- THE STATE THAT IS KEPT, once the order of its rows is known, is the one that it stands for (`shown_is`). Under each
-- number what is kept tells the fate and the octets that the row has, and rows are what these tell in their order
-- (`rows_are`, set_model's Checkpointing.antt); only `rebuilt_same` is an induction, on the numbers. set_core's
-- Keeping.antt uses it where a set's base is shown by what the set keeps.
use Rattle.std.proofs.Common.{refl, ◌≡◌, ◌∙◌, ap, [], ◌∷◌, ℕ, Bool, true, false, cond, List, Option, None, Some, option_map, length}
use Rattle.std.proofs.lemmas.Option.{same_Some}
use Rattle.set_queues.specs.Messages.{slot_at, is_users as is_users_kind}
use Rattle.set_queues.specs.declared.message.Kind.TheVariants.{User, Order}
use Rattle.set_model.specs.Checkpoint.{rebuilt}
use Rattle.set_model.specs.Rows.{Fate, Row, is_users, stream_of, body_at, owner_at, numbers, place, row_of}
use Rattle.set_model.specs.State.{State}
use Rattle.set_model.proofs.Checkpointing.{rows_are}
use Rattle.set_changeover.specs.Agreement.{Kept, Label, Message, StandsFor, body_in, label_in, label_of, owner_in, place_in, shown}

rebuilt_same : (users users' : ℕ → Option Bool) (body body' : ℕ → Option (List ℕ)) (fate fate' : ℕ → Option Fate) → ((n : ℕ) → users n ≡ users' n) → ((n : ℕ) → body n ≡ body' n) → ((n : ℕ) → fate n ≡ fate' n) → (ns : List ℕ) → rebuilt users body fate ns ≡ rebuilt users' body' fate' ns
rebuilt_same users users' body body' fate fate' u b f [] = refl
rebuilt_same users users' body body' fate fate' u b f (n ∷ ns) = rw (u n, b n, f n, rebuilt_same users users' body body' fate fate' u b f ns) refl

-- the label tells whose it is
owner_is : (slot : Option Message) (row : Option Row) → option_map label_in slot ≡ option_map label_of row → option_map (λ (m : Message). is_users_kind m.kind) slot ≡ option_map is_users row
owner_is None None e = refl
owner_is None (Some row) e = absurd cc
owner_is (Some m) None e = absurd cc
owner_is (Some m) (Some row) e = ap Some (ap is_users_kind (ap (λ (l : Label). l.kind) (same_Some (label_in m) (label_of row) e)) ∙ own (is_users row))
  where
    own : (b : Bool) → is_users_kind (cond b (User (stream_of row.body)) Order) ≡ b
    own true = refl
    own false = refl

pub shown_is : (k : Kept) (s : State) → StandsFor k s → shown (numbers s.rows) k ≡ s
shown_is k s f =
    let rows : rebuilt (λ n. owner_in n k) (λ n. body_in n k) (λ n. place_in n k) (numbers s.rows) ≡ s.rows =
    rebuilt_same (λ n. owner_in n k) (λ n. owner_at n s.rows) (λ n. body_in n k) (λ n. body_at n s.rows) (λ n. place_in n k) (λ n. place n s.rows)
    (λ n. owner_is (slot_at n k.messages) (row_of n s.rows) (f.stands.labels n)) f.bodies f.stands.fates (numbers s.rows) ∙ rows_are (length k.messages) s.rows f.stands.numbered in
    rw (rows, f.settings, f.finished, f.links, f.routing, f.inbox) refl
