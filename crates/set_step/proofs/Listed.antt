-- THE NUMBERS OF WHAT STANDS ON A LINK, queue by queue: `put_behind` is one more of a queue, `listed` all three, and
-- `none_listed` that there are none on a link that isn't there. Each queue is that of the state's rows (Agreement).
use Rattle.std.proofs.Common.{refl, arith, ◌≡◌, ◌∙◌, ap, sym, ◌≤◌, ◌+◌, [], ◌∷◌, ◌++◌, List, ℕ, zero, suc, length, take, Some, slice_get}
use Rattle.std.proofs.lemmas.List.{append_assoc, append-nil}
use Rattle.std.proofs.lemmas.Option.{slice_get_past}
use Rattle.set_queues.specs.Buffers.{queue_at}
use Rattle.set_model.specs.Rows.{Fate, Held, Row, Unacked, Waiting, held, numbers, unack, unsent, wait}
use Rattle.set_queues.specs.Messages.{unsent_of}
use Rattle.set_traffic.proofs.Counts.{unsent_is}
use Rattle.std.proofs.lemmas.List.{length-map}
use Rattle.set_model.specs.State.{State}
use Rattle.set_changeover.specs.Agreement.{Kept, StandsFor}

taken_more : (xs : List ℕ) (i x : ℕ) → slice_get xs i ≡ Some x → take (i + 1) xs ≡ take i xs ++ x ∷ []
taken_more [] i x there = absurd cc
taken_more (y ∷ ys) zero x there = let same : y ≡ x = cc in ap (λ (z : ℕ). z ∷ []) same
taken_more (y ∷ ys) (suc i) x there = let next : suc i + 1 ≡ suc (i + 1) = omega arith in rw next (ap (λ (rest : List ℕ). y ∷ rest) (taken_more ys i x there))

pub put_behind : (xs first old new : List ℕ) (i x : ℕ) → slice_get xs i ≡ Some x → old ≡ first ++ take i xs → new ≡ old ++ x ∷ []
    → new ≡ first ++ take (i + 1) xs
put_behind xs first old new i x there before is =
    rw (taken_more xs i x there) (is ∙ ap (λ (these : List ℕ). these ++ x ∷ []) before ∙ append_assoc first (take i xs) (x ∷ []))

pub listed : (k : Kept) (s : State) (link : ℕ) (first : List ℕ) → StandsFor k s
    → ((first ++ queue_at (Unacked link) k.lists) ++ queue_at (Waiting link) k.lists) ++ queue_at (Held link) k.lists
    ≡ first ++ (numbers (unack link s.rows) ++ (numbers (wait link s.rows) ++ numbers (held link s.rows)))
listed k s link first f =
    let sent = f.stands.queues (Unacked link) refl in
    let waiting = f.stands.queues (Waiting link) refl in
    let aside = f.stands.queues (Held link) refl in
    rw (sent, waiting, aside)
    (append_assoc (first ++ numbers (unack link s.rows)) (numbers (wait link s.rows)) (numbers (held link s.rows))
    ∙ append_assoc first (numbers (unack link s.rows)) (numbers (wait link s.rows) ++ numbers (held link s.rows)))

pub none_listed : (k : Kept) (s : State) (link : ℕ) (first : List ℕ) → StandsFor k s → length k.lists.links ≤ link
    → first ≡ first ++ (numbers (unack link s.rows) ++ (numbers (wait link s.rows) ++ numbers (held link s.rows)))
none_listed k s link first f past =
    let none = slice_get_past k.lists.links link past in
    let sent : queue_at (Unacked link) k.lists ≡ [] = rw none refl in
    let waiting : queue_at (Waiting link) k.lists ≡ [] = rw none refl in
    let aside : queue_at (Held link) k.lists ≡ [] = rw none refl in
    let nothing : ((first ++ queue_at (Unacked link) k.lists) ++ queue_at (Waiting link) k.lists) ++ queue_at (Held link) k.lists ≡ first =
    rw (sent, waiting, aside) (append-nil ((first ++ []) ++ []) ∙ append-nil (first ++ []) ∙ append-nil first) in
    sym nothing ∙ listed k s link first f

-- HOW MANY THERE ARE: as many as the queue has, and none on a link that isn't there

many : (n : ℕ) (queue : List ℕ) (rows : List Row) → n ≡ length queue → queue ≡ numbers rows → n ≡ length rows
many n queue rows count same = count ∙ ap (λ (ns : List ℕ). length ns) same ∙ length-map rows (λ (row : Row). row.number)

pub as_many_wait : (k : Kept) (s : State) (link n : ℕ) → StandsFor k s → n ≡ length (queue_at (Waiting link) k.lists)
    → n ≡ length (wait link s.rows)
as_many_wait k s link n f count = many n (queue_at (Waiting link) k.lists) (wait link s.rows) count (f.stands.queues (Waiting link) refl)

pub as_many_sent : (k : Kept) (s : State) (link n : ℕ) → StandsFor k s → n ≡ length (queue_at (Unacked link) k.lists)
    → n ≡ length (unack link s.rows)
as_many_sent k s link n f count = many n (queue_at (Unacked link) k.lists) (unack link s.rows) count (f.stands.queues (Unacked link) refl)

pub as_many_held : (k : Kept) (s : State) (link n : ℕ) → StandsFor k s → n ≡ length (queue_at (Held link) k.lists)
    → n ≡ length (held link s.rows)
as_many_held k s link n f count = many n (queue_at (Held link) k.lists) (held link s.rows) count (f.stands.queues (Held link) refl)

pub none_waits : (k : Kept) (s : State) (link : ℕ) → StandsFor k s → length k.lists.links ≤ link → 0 ≡ length (wait link s.rows)
none_waits k s link f past =
    let none = slice_get_past k.lists.links link past in
    let nothing : queue_at (Waiting link) k.lists ≡ [] = rw none refl in
    as_many_wait k s link 0 f (ap (λ (ns : List ℕ). length ns) (sym nothing))

pub none_sent : (k : Kept) (s : State) (link : ℕ) → StandsFor k s → length k.lists.links ≤ link → 0 ≡ length (unack link s.rows)
none_sent k s link f past =
    let none = slice_get_past k.lists.links link past in
    let nothing : queue_at (Unacked link) k.lists ≡ [] = rw none refl in
    as_many_sent k s link 0 f (ap (λ (ns : List ℕ). length ns) (sym nothing))

pub none_held : (k : Kept) (s : State) (link : ℕ) → StandsFor k s → length k.lists.links ≤ link → 0 ≡ length (held link s.rows)
none_held k s link f past =
    let none = slice_get_past k.lists.links link past in
    let nothing : queue_at (Held link) k.lists ≡ [] = rw none refl in
    as_many_held k s link 0 f (ap (λ (ns : List ℕ). length ns) (sym nothing))

pub as_many_unsent : (k : Kept) (s : State) (stream n : ℕ) → StandsFor k s → n ≡ unsent_of stream k.messages
    → n ≡ length (unsent stream s.rows)
as_many_unsent k s stream n f count = count ∙ unsent_is stream k.lists k.messages s.rows f.stands
