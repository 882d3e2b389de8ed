-- What an entry adds to a seat, and what seats that are back come to.
use Rattle.std.proofs.Common.{arith, ◌≡◌, ◌∙◌, ap, sym, refl, ℕ, Bool, ◌+◌, ◌-◌, ◌*◌, ◌^◌, ◌<◌, ◌≤◌, [], ◌∷◌, ◌++◌, List}
use Rattle.std.proofs.lemmas.List.{length-append}
use Rattle.set_events.specs.declared.answer.Answer.{Answer}
use Rattle.set_events.specs.declared.event.Actor.{Actor}
use Rattle.set_events.specs.declared.event.Actor.TheVariants.{User, Terminal}
use Rattle.set_events.specs.declared.event.Event.{Event}
use Rattle.set_events.specs.declared.history.Entry.{Entry}
use Rattle.set_core.proofs.Keeping.{messages_more, octets_more}
use Rattle.set_core.specs.Gaining.{BooksGain, AreBounded, GainsNoOther as GainsNoOtherInBooks}
use Rattle.set_events.specs.Owners.{IsOwn}
use Rattle.set_model.specs.History.{Base, LinkSet, IsStep, books_in, entries_in, entries_of}
use Rattle.set_model.specs.Step.{messages_in, octets_of}
use Rattle.set_ledger.specs.declared.share.Forgotten.{Forgotten}
use Rattle.set_ledger.specs.declared.share.SeatShare.{SeatShare}
use Rattle.set_ledger.specs.Seats.{ShareGrows, AddsUp, acked_in, user_share, term_share, user_state, term_state}
use Rattle.set_ledger.specs.Totals.{AreTotals, Gains, GainsNoOther, TellsFull, totals_of}

-- a share that grew by an entry is what the receipts with that entry add up to
pub adds_up_more : (who : Actor) (old new : SeatShare) (forgotten : Forgotten) (receipts more : List Entry) (full : Bool) (taken : ℕ) (event : Event) (answer : Answer) → AddsUp (record { who = who; share = old; forgotten = forgotten; receipts = receipts; full = full; checkpoints = taken }) → ShareGrows old event answer new → more ≡ receipts ++ record { who = who; event = event; answer = answer } ∷ []
    → AddsUp (record { who = who; share = new; forgotten = forgotten; receipts = more; full = full; checkpoints = taken })
adds_up_more who old new forgotten receipts more full taken event answer sums grows e =
    let entry : Entry = record { who = who; event = event; answer = answer } in
    let calls_were = sums.calls in
    let calls_more = grows.calls in
    let messages_were = sums.messages in
    let messages_grow = grows.messages in
    let octets_were = sums.octets in
    let octets_grow = grows.octets in
    rw e (record {
      calls = omega (arith, calls_were, calls_more, length-append receipts (entry ∷ []));
      messages = omega (arith, messages_were, messages_grow, messages_more receipts entry);
      octets = omega (arith, octets_were, octets_grow, octets_more receipts entry);
    })

-- what a step brought, as shares show it
pub user_grows : (number calls messages octets calls' messages' octets' : ℕ) (event : Event) (answer : Answer) (gained : SeatShare) (old new : LinkSet) → Gains old (User number) event answer gained new → calls' ≡ calls + gained.calls → messages' ≡ messages + gained.messages → octets' ≡ octets + gained.octets
    → ShareGrows (user_share calls messages octets) event answer (user_share calls' messages' octets')
user_grows number calls messages octets calls' messages' octets' event answer gained old new gains c m o = record {
  calls = c ∙ ap (λ n. calls + n) gains.call;
  messages = m ∙ ap (λ n. messages + n) gains.message;
  octets = o ∙ ap (λ n. octets + n) gains.octet;
}

pub term_grows : (link calls acknowledged calls' acknowledged' : ℕ) (event : Event) (answer : Answer) (gained : SeatShare) (old new : LinkSet) → Gains old (Terminal link) event answer gained new → calls' ≡ calls + gained.calls → ShareGrows (term_share calls acknowledged) event answer (term_share calls' acknowledged')
term_grows link calls acknowledged calls' acknowledged' event answer gained old new gains c = record {
  calls = c ∙ ap (λ n. calls + n) gains.call;
  messages = let none = gains.no_other.0 in let is = gains.message in omega (arith, none, is);
  octets = let none = gains.no_other.1 in let is = gains.octet in omega (arith, none, is);
}

-- A SEAT at a step that brought this much: its parts gained so much, and the receipt was put last.
pub user_adds_up : (number calls messages octets calls' messages' octets' : ℕ) (forgotten : Forgotten) (receipts more : List Entry) (full : Bool) (taken : ℕ) (event : Event) (answer : Answer) (gained : SeatShare) (old new : LinkSet) → AddsUp (user_state number calls messages octets forgotten receipts full taken) → Gains old (User number) event answer gained new
    → calls' ≡ calls + gained.calls → messages' ≡ messages + gained.messages → octets' ≡ octets + gained.octets → more ≡ receipts ++ record { who = User number; event = event; answer = answer } ∷ [] → AddsUp (user_state number calls' messages' octets' forgotten more full taken)
user_adds_up number calls messages octets calls' messages' octets' forgotten receipts more full taken event answer gained old new sums gains c m o e =
    adds_up_more (User number) _ _ forgotten receipts more full taken event answer sums (user_grows number calls messages octets calls' messages' octets' event answer gained old new gains c m o) e

pub term_adds_up : (link calls acknowledged calls' acknowledged' : ℕ) (forgotten : Forgotten) (receipts more : List Entry) (full : Bool) (taken : ℕ) (event : Event) (answer : Answer) (gained : SeatShare) (old new : LinkSet) → AddsUp (term_state link calls acknowledged forgotten receipts full taken) → Gains old (Terminal link) event answer gained new
    → calls' ≡ calls + gained.calls → more ≡ receipts ++ record { who = Terminal link; event = event; answer = answer } ∷ [] → AddsUp (term_state link calls' acknowledged' forgotten more full taken)
term_adds_up link calls acknowledged calls' acknowledged' forgotten receipts more full taken event answer gained old new sums gains c e =
    adds_up_more (Terminal link) _ _ forgotten receipts more full taken event answer sums (term_grows link calls acknowledged calls' acknowledged' event answer gained old new gains c) e

-- THE TOTALS then: the books of the seat's ledgers gained as much, and the others nothing.
pub user_totals : (number calls messages octets acknowledged calls' messages' octets' : ℕ) (event : Event) (answer : Answer) (gained : SeatShare) (old new : LinkSet) → AreTotals (totals_of calls messages octets acknowledged) old → Gains old (User number) event answer gained new
    → calls' ≡ calls + gained.calls → messages' ≡ messages + gained.messages → octets' ≡ octets + gained.octets → AreTotals (totals_of calls' messages' octets' acknowledged) new
user_totals number calls messages octets acknowledged calls' messages' octets' event answer gained old new t gains c m o = record {
  calls_is = c ∙ ap (λ n. n + gained.calls) t.calls_is ∙ sym gains.calls;
  messages_is = m ∙ ap (λ n. n + gained.messages) t.messages_is ∙ sym gains.messages;
  octets_is = o ∙ ap (λ n. n + gained.octets) t.octets_is ∙ sym gains.octets;
  acknowledged_is = let was = t.acknowledged_is in let is = gains.acknowledged in let none = gains.no_other in omega (arith, was, is, none);
}

pub term_totals : (link calls messages octets acknowledged calls' acknowledged' : ℕ) (event : Event) (answer : Answer) (gained : SeatShare) (old new : LinkSet) → AreTotals (totals_of calls messages octets acknowledged) old → Gains old (Terminal link) event answer gained new
    → calls' ≡ calls + gained.calls → acknowledged' ≡ acknowledged + gained.acknowledged → AreTotals (totals_of calls' messages octets acknowledged') new
term_totals link calls messages octets acknowledged calls' acknowledged' event answer gained old new t gains c a = record {
  calls_is = c ∙ ap (λ n. n + gained.calls) t.calls_is ∙ sym gains.calls;
  messages_is = let was = t.messages_is in let is = gains.messages in let none = gains.no_other.0 in omega (arith, was, is, none);
  octets_is = let was = t.octets_is in let is = gains.octets in let none = gains.no_other.1 in omega (arith, was, is, none);
  acknowledged_is = a ∙ ap (λ n. n + gained.acknowledged) t.acknowledged_is ∙ sym gains.acknowledged;
}

-- what a step acknowledged is the share's of the seat that made it
pub user_acknowledges : (number : ℕ) (event : Event) (answer : Answer) (gained : SeatShare) (old new : LinkSet) → Gains old (User number) event answer gained new → 0 + acked_in old ≡ 0 + acked_in new
user_acknowledges number event answer gained old new gains = let is = gains.acknowledged in let none = gains.no_other in omega (arith, is, none)

pub term_acknowledges : (link acknowledged acknowledged' : ℕ) (event : Event) (answer : Answer) (gained : SeatShare) (old new : LinkSet) → Gains old (Terminal link) event answer gained new → acknowledged' ≡ acknowledged + gained.acknowledged → acknowledged' + acked_in old ≡ acknowledged + acked_in new
term_acknowledges link acknowledged acknowledged' event answer gained old new gains a = let is = gains.acknowledged in omega (arith, is, a)

-- a history that was full is full still
pub full_stays : (total : ℕ) (old new : LinkSet) (who : Actor) (event : Event) (answer : Answer) (gained : SeatShare) → Gains old who event answer gained new → TellsFull total old → TellsFull total new
full_stays total old new who event answer gained gains full some =
    let were = full some in
    let more = gains.calls in
    omega (arith, were, more)

-- room in a book for what a step brought
pub room_for : (total gained was is : ℕ) → total ≡ was → is ≡ was + gained → is ≤ 273 * 2 ^ 48 → total + gained < 2 ^ 64
room_for total gained was is t g few = omega (arith, t, g, few)

pub few_enough : {n : ℕ} → n ≤ 2 ^ 48 → n ≤ 273 * 2 ^ 48
few_enough few = omega (arith, few)

-- What the books gained is what a step brought.
pub brings : (old new : LinkSet) (who : Actor) (event : Event) (answer : Answer) (messages octets before after : ℕ) → IsOwn who event → IsStep old who event answer new → BooksGain (books_in old) who event answer (books_in new)
    → AreBounded (books_in new) → entries_in new ≤ 2 ^ 48 → messages ≡ messages_in answer → octets ≡ octets_of event answer → before ≡ acked_in old → after ≡ acked_in new
    → Gains old who event answer (record { calls = 1; messages = messages; octets = octets; acknowledged = after - before }) new
brings old new who event answer messages octets before after own is gains bounded few m o b a =
    let entry : Entry = record { who = who; event = event; answer = answer } in
    let messages_gain = gains.messages in
    let octets_gain = gains.octets in
    let acked_gain = gains.acknowledged in
    let few_messages = bounded.messages in
    let few_acked = bounded.acknowledged in
    record {
      call = refl;
      message = m;
      octet = o;
      no_other = only who (gains.own own);
      calls = ap (λ (base : Base). entries_of base new.history) is.base_is ∙ ap (entries_of old.base) is.history_is ∙ omega (arith, length-append old.history (entry ∷ []));
      messages = omega (arith, m, messages_gain);
      octets = omega (arith, o, octets_gain);
      acknowledged = omega (arith, b, a, acked_gain);
      few_calls = few;
      few_messages = few_messages;
      few_octets = bounded.octets;
      few_acknowledged = omega (arith, few_acked, few_messages);
    }
  where
    only : (who : Actor) → GainsNoOtherInBooks who (books_in old) (books_in new) → GainsNoOther who (record { calls = 1; messages = messages; octets = octets; acknowledged = after - before })
    only (User number) none = omega (arith, b, a, none)
    only (Terminal link) none =
        let no_message = none.0 in
        let no_octet = none.1 in
        let messages_gain = gains.messages in
        let octets_gain = gains.octets in
        (omega (arith, m, no_message, messages_gain), omega (arith, o, no_octet, octets_gain))
