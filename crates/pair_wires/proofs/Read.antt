-- USERS' STREAMS READ OFF: by what filters see of a history that is one entry longer (`offers_kept`), and since both
-- ways of telling what was taken are one (`taken_same`).
use Rattle.std.proofs.Common.{refl, ap, sym, subst, ◌≡◌, ◌∙◌, ℕ, ◌==◌, Bool, true, false, List, [], ◌∷◌, ◌++◌, length, take, append-nil, append_assoc, if◌then◌else◌}
use Rattle.std.proofs.lemmas.List.{map-append}
use Rattle.std.proofs.lemmas.List.Elements.{filter-append}
use Rattle.set_events.specs.declared.answer.Answer.{Answer}
use Rattle.set_events.specs.declared.event.Actor.{Actor}
use Rattle.set_events.specs.declared.event.Event.{Event}
use Rattle.set_events.specs.declared.history.Entry.{Entry}
use Rattle.set_model.specs.Rows.{stream_of}
use Rattle.set_model.specs.State.{State}
use Rattle.term_bench.specs.Ends.{BenchState}
use Rattle.pair_steps.specs.declared.step.Shown.TheVariants.{Answered}
use Rattle.pair_model.specs.Run.{Message, Past, accepted_in, added_at, bodies, past_asked}
use Rattle.pair_streams.specs.Arrived.{HandsOutAll}
use Rattle.pair_streams.specs.Handed.{handed_by, handed_in, taken_of}
use Rattle.pair_octets.specs.Streams.{Arrives, of_stream, offered_by, offered_in, taken_by, taken_in}
use Rattle.pair_wires.specs.Carrying.{ArrivesWhole}
use Rattle.pair_wires.specs.Moves.{IsThinned}
use Rattle.pair_wires.specs.Read.{IsOffered, OffersAreKept, StreamsAreReadOff}

-- WHAT WAS TAKEN
by_same : (answer : Answer) → taken_by answer ≡ handed_by answer
by_same (Answer.Accepted number) = refl
by_same (Answer.Taken body) = refl
by_same (Answer.Found fate) = refl
by_same (Answer.Sent unit) = refl
by_same (Answer.Heard report) = refl
by_same Answer.Done = refl
by_same (Answer.Refused why) = refl

taken_same : (entries : List Entry) → taken_in entries ≡ handed_in entries
taken_same [] = refl
taken_same (entry ∷ entries) =
    ap (λ (bodies : List (List ℕ)). bodies ++ taken_in entries) (by_same entry.answer)
    ∙ ap (λ (bodies : List (List ℕ)). handed_by entry.answer ++ bodies) (taken_same entries)

-- WHAT WAS OFFERED
nothing : (b : Bool) → ◌≡◌ {A = List (List ℕ)} [] (if b then [] else [])
nothing true = refl
nothing false = refl

offered_more : (xs ys : List Entry) → offered_in (xs ++ ys) ≡ offered_in xs ++ offered_in ys
offered_more [] ys = refl
offered_more (x ∷ xs) ys =
    ap (λ (bodies : List (List ℕ)). offered_by x.event x.answer ++ bodies) (offered_more xs ys)
    ∙ sym (append_assoc (offered_by x.event x.answer) (offered_in xs) (offered_in ys))

module _ (past : Past) (history : List Entry) (who : Actor) (stream : ℕ) (kept : bodies (past.offered stream) ≡ of_stream stream (offered_in history)) where
  one_more : (event : Event) (answer : Answer)
      → of_stream stream (offered_in (history ++ record { who = who; event = event; answer = answer } ∷ []))
      ≡ of_stream stream (offered_in history) ++ of_stream stream (offered_by event answer)
  one_more event answer =
      let entry : Entry = record { who = who; event = event; answer = answer } in
      ap (of_stream stream) (offered_more history (entry ∷ []) ∙ ap (λ (bodies : List (List ℕ)). offered_in history ++ bodies) (append-nil (offered_by event answer)))
      ∙ filter-append (λ (body : List ℕ). stream == stream_of body) (offered_in history) (offered_by event answer)

  -- what offers none
  none_more : (event : Event) (answer : Answer) → offered_by event answer ≡ []
      → bodies (past.offered stream) ≡ of_stream stream (offered_in (history ++ record { who = who; event = event; answer = answer } ∷ []))
  none_more event answer none =
      kept ∙ sym (append-nil (of_stream stream (offered_in history)))
      ∙ ap (λ (bodies : List (List ℕ)). of_stream stream (offered_in history) ++ of_stream stream bodies) (sym none) ∙ sym (one_more event answer)

  -- an offer, by the bodies that it adds
  added : (body : List ℕ) (answer : Answer) (more : List Message) → bodies more ≡ offered_by (Event.Offer body) answer
      → bodies (added_at (stream_of body) more past.offered stream)
      ≡ of_stream stream (offered_in (history ++ record { who = who; event = Event.Offer body; answer = answer } ∷ []))
  added body answer more is = go (stream == stream_of body) refl
    where
      seen : (b : Bool) → (stream == stream_of body) ≡ b → (bs : List (List ℕ)) → bs ≡ offered_by (Event.Offer body) answer
          → of_stream stream bs ≡ (if b then bs else [])
      seen b e bs same = subst (λ (x : List (List ℕ)). of_stream stream x ≡ (if b then x else [])) (sym same) (by answer)
        where
          by : (answer : Answer) → of_stream stream (offered_by (Event.Offer body) answer) ≡ (if b then offered_by (Event.Offer body) answer else [])
          by (Answer.Accepted number) = rw e refl
          by (Answer.Taken taken) = nothing b
          by (Answer.Found fate) = nothing b
          by (Answer.Sent unit) = nothing b
          by (Answer.Heard report) = nothing b
          by Answer.Done = nothing b
          by (Answer.Refused why) = nothing b

      go : (b : Bool) → (stream == stream_of body) ≡ b
          → bodies (if b then past.offered stream ++ more else past.offered stream)
          ≡ of_stream stream (offered_in (history ++ record { who = who; event = Event.Offer body; answer = answer } ∷ []))
      go true e =
          map-append (λ (m : Message). m.body) (past.offered stream) more ∙ ap (λ (bs : List (List ℕ)). bs ++ bodies more) kept
          ∙ ap (λ (bs : List (List ℕ)). of_stream stream (offered_in history) ++ bs) (sym (seen true e (bodies more) is))
          ∙ ap (λ (bs : List (List ℕ)). of_stream stream (offered_in history) ++ of_stream stream bs) is ∙ sym (one_more (Event.Offer body) answer)
      go false e =
          kept ∙ sym (append-nil (of_stream stream (offered_in history)))
          ∙ ap (λ (bs : List (List ℕ)). of_stream stream (offered_in history) ++ bs) (sym (seen false e (bodies more) is))
          ∙ ap (λ (bs : List (List ℕ)). of_stream stream (offered_in history) ++ of_stream stream bs) is ∙ sym (one_more (Event.Offer body) answer)

  accepted_so : (body : List ℕ) (answer : Answer) → bodies (accepted_in body (Answered answer)) ≡ offered_by (Event.Offer body) answer
  accepted_so body (Answer.Accepted number) = refl
  accepted_so body (Answer.Taken taken) = refl
  accepted_so body (Answer.Found fate) = refl
  accepted_so body (Answer.Sent unit) = refl
  accepted_so body (Answer.Heard report) = refl
  accepted_so body Answer.Done = refl
  accepted_so body (Answer.Refused why) = refl

  event_kept : (event : Event) (answer : Answer)
      → bodies ((past_asked event (Answered answer) past).offered stream)
      ≡ of_stream stream (offered_in (history ++ record { who = who; event = event; answer = answer } ∷ []))
  event_kept (Event.Offer body) answer = added body answer (accepted_in body (Answered answer)) (accepted_so body answer)
  event_kept Event.Take answer = none_more Event.Take answer refl
  event_kept (Event.Find number) answer = none_more (Event.Find number) answer refl
  event_kept (Event.Next link) answer = none_more (Event.Next link) answer refl
  event_kept (Event.Heard link unit) answer = none_more (Event.Heard link unit) answer refl
  event_kept (Event.Up link) answer = none_more (Event.Up link) answer refl
  event_kept (Event.Down link) answer = none_more (Event.Down link) answer refl
  event_kept (Event.DownBlind link) answer = none_more (Event.DownBlind link) answer refl
  event_kept (Event.NoAnswer link) answer = none_more (Event.NoAnswer link) answer refl
  event_kept (Event.Timed link) answer = none_more (Event.Timed link) answer refl
  event_kept (Event.Restore link) answer = none_more (Event.Restore link) answer refl
  event_kept (Event.Redeclare link) answer = none_more (Event.Redeclare link) answer refl
  event_kept (Event.BackTimeout link) answer = none_more (Event.BackTimeout link) answer refl
  event_kept (Event.Test link) answer = none_more (Event.Test link) answer refl

pub offers_kept : OffersAreKept
offers_kept past history who event answer kept stream = event_kept past history who stream (kept stream) event answer

-- ONE DIRECTION
arrives_so : (stream : ℕ) (thin : _) (near far : BenchState) (past : Past) → IsThinned thin far.set → IsOffered past near.set.history
    → taken_of stream thin ≡ take (length (taken_of stream thin)) (bodies (past.offered stream)) → Arrives stream near far
arrives_so stream thin near far past t offered first =
    let same : of_stream stream (taken_in far.set.history) ≡ taken_of stream thin =
    ap (of_stream stream) (taken_same far.set.history ∙ sym t.handed) in
    same ∙ first ∙ ap (λ (n : ℕ). take n (bodies (past.offered stream))) (ap length (sym same))
    ∙ ap (λ (bs : List (List ℕ)). take (length (of_stream stream (taken_in far.set.history))) bs) (offered stream)

-- all of it
pub arrives_whole : (stream : ℕ) (thin : _) (near far : BenchState) (past : Past) → IsThinned thin far.set → IsOffered past near.set.history
    → HandsOutAll stream past thin → ArrivesWhole stream near far
arrives_whole stream thin near far past t offered all =
    ap (λ (bs : List (List ℕ)). of_stream stream bs ++ of_stream stream far.set.state.inbox) (taken_same far.set.history ∙ sym t.handed)
    ∙ ap (λ (s : State). taken_of stream thin ++ of_stream stream s.inbox) (sym t.state) ∙ all ∙ offered stream

pub read_off : StreamsAreReadOff
read_off g a b t first stream low = (
  arrives_so stream g.world.b a b g.a t.b_set t.a_offered (first stream low).1,
  arrives_so stream g.world.a b a g.b t.a_set t.b_offered (first stream low).0,
)
