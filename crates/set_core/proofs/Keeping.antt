-- WHAT A SET KEEPS, entry by entry (`IsKept`): its history is legal, what it keeps agrees with the state after it, its
-- tally is that of the books, and the bounds hold. `kept_more` is of one entry more, with what the books gain
-- (`gained`), `kept_new` of a new set, `kept_on` and `kept_by` of what goes on from a checkpoint; what an entry adds to
-- a history is an induction on its entries (`legal_more`, `after_more`). It stands on Calls.antt, set_model's
-- Staying.antt and set_changeover's Shown.antt; Heard.antt, src/set.rt, src/base.rt and src/auditing.rt use it.
use Rattle.std.proofs.Common.{refl, arith, ◌≡◌, ◌∙◌, ap, sym, subst, ◌<◌, ◌≤◌, ◌^◌, [], ◌∷◌, length, ℕ, ◌+◌, sum, List, ◌++◌, ◌*◌}
use Rattle.std.proofs.lemmas.List.{length-append, length-replicate}
use Rattle.std.proofs.lemmas.List.Elements.{filter-append}
use Rattle.set_events.specs.declared.answer.Answer.{Answer}
use Rattle.set_events.specs.declared.answer.Answer.TheVariants.{Accepted}
use Rattle.set_events.specs.declared.books.Books.{Books}
use Rattle.set_events.specs.declared.answer.Counts.{Counts}
use Rattle.set_events.specs.declared.event.Actor.{Actor}
use Rattle.set_events.specs.declared.event.Actor.TheVariants.{User, Terminal}
use Rattle.set_events.specs.declared.event.Event.{Event}
use Rattle.set_events.specs.declared.event.Event.TheVariants.{Offer, Take, Find, Next, Heard, Up, Down, DownBlind, NoAnswer, Timed, Restore, Redeclare, BackTimeout, Test}
use Rattle.set_events.specs.declared.history.Entry.{Entry}
use Rattle.set_core.specs.declared.tally.Tally.{Tally}
use Rattle.set_events.specs.declared.config.SetConfig.{SetConfig}
use Rattle.set_model.specs.State.{State, FinishedCounts, new_state, settings_of}
use Rattle.set_model.specs.Checkpoint.{checkpointed, counts_in}
use Rattle.set_model.proofs.Checkpointing.{counts_stay, stand_still}
use Rattle.set_model.specs.Sound.{AreFew}
use Rattle.set_model.specs.Rows.{counts_of, is_unacked, numbers, total_of}
use Rattle.set_model.specs.Step.{Gains, step, messages_in, octets_of}
use Rattle.set_model.proofs.Staying.{step_gains, step_grows, AcceptsNone, accepts_none, step_at_most}
use Rattle.set_model.proofs.Soundness.{opened_new}
use Rattle.set_changeover.specs.Agreement.{Kept, Agrees, shown}
use Rattle.set_changeover.proofs.Shown.{shown_is}
use Rattle.set_step.specs.Answering.{AnswersFor}
use Rattle.set_events.specs.Owners.{IsOwn}
use Rattle.set_core.specs.Gaining.{BooksGain, GainsNoOther, AreBounded, users_after, terminals_after}
use Rattle.set_model.specs.History.{Base, LinkSet, based, books_in, entries_in, IsActor, IsStep, IsLegal, after, added, no_books, opening_of, books_of, entries_of, is_user, is_terminal, calls_from, messages_of, octets_in_all}
use Rattle.set_core.specs.Keeping.{with_history, base_at, base_of, books_by, IsTally, IsKept}
use Rattle.set_core.proofs.Calls.{all_in_sum, others, its_own, length-added, length-calls, no_sum, none_added, sum-added, sums_more, terminals_added, users_added}

pub legal_more : (s : State) (history : List Entry) (entry : Entry) → IsLegal s history → IsActor entry.who → entry.answer ≡ (step (after s history) entry.event).answer → IsLegal s (history ++ entry ∷ [])
legal_more s [] entry l a e = (a, e, tt)
legal_more s (x ∷ entries) entry l a e = (l.0, l.1, legal_more (step s x.event).state entries entry l.2 a e)

pub after_more : (s : State) (history : List Entry) (entry : Entry) → after s (history ++ entry ∷ []) ≡ (step (after s history) entry.event).state
after_more s [] entry = refl
after_more s (x ∷ entries) entry = after_more (step s x.event).state entries entry

-- The sums.

pub messages_more : (history : List Entry) (entry : Entry) → messages_of (history ++ entry ∷ []) ≡ messages_of history + messages_in entry.answer
messages_more [] entry = omega arith
messages_more (x ∷ entries) entry = omega (arith, messages_more entries entry)

pub octets_more : (history : List Entry) (entry : Entry) → octets_in_all (history ++ entry ∷ []) ≡ octets_in_all history + octets_of entry.event entry.answer
octets_more [] entry = omega arith
octets_more (x ∷ entries) entry = omega (arith, octets_more entries entry)

one_message : (answer : Answer) → messages_in answer ≤ 1
one_message (Accepted number) = omega arith
one_message _ = omega arith

pub messages_few : (history : List Entry) → messages_of history ≤ length history
messages_few [] = omega arith
messages_few (entry ∷ entries) = omega (arith, one_message entry.answer, messages_few entries)

pub users_more : (history : List Entry) (entry : Entry) → IsActor entry.who → calls_from is_user 0 64 (history ++ entry ∷ []) ≡ users_after entry.who (calls_from is_user 0 64 history)
users_more history entry a = go entry.who refl a
  where
    go : (who : Actor) → entry.who ≡ who → IsActor who → calls_from is_user 0 64 (history ++ entry ∷ []) ≡ users_after who (calls_from is_user 0 64 history)
    go (User number) e a = its_own is_user history entry number (λ i. ap (is_user i) e) 0 64 number (omega arith) a
    go (Terminal link) e a = others is_user history entry 0 64 (λ i g. ap (is_user i) e)

pub terminals_more : (history : List Entry) (entry : Entry) → IsActor entry.who → calls_from is_terminal 0 16 (history ++ entry ∷ []) ≡ terminals_after entry.who (calls_from is_terminal 0 16 history)
terminals_more history entry a = go entry.who refl a
  where
    go : (who : Actor) → entry.who ≡ who → IsActor who → calls_from is_terminal 0 16 (history ++ entry ∷ []) ≡ terminals_after who (calls_from is_terminal 0 16 history)
    go (User number) e a = others is_terminal history entry 0 16 (λ i g. ap (is_terminal i) e)
    go (Terminal link) e a = its_own is_terminal history entry link (λ i. ap (is_terminal i) e) 0 16 link (omega arith) a

calls_more : (base : Base) (history : List Entry) (entry : Entry) → sum (books_of base history).user_calls + sum (books_of base history).term_calls ≡ entries_of base history → IsActor entry.who
    → sum (books_of base (history ++ entry ∷ [])).user_calls + sum (books_of base (history ++ entry ∷ [])).term_calls ≡ entries_of base (history ++ entry ∷ [])
calls_more base history entry e a =
    let users = calls_from is_user 0 64 history in
    let terminals = calls_from is_terminal 0 16 history in
    let more : List Entry = history ++ entry ∷ [] in
    omega (
      arith,
      e,
      length-append history (entry ∷ []),
      sum-added base.books.user_calls users,
      sum-added base.books.term_calls terminals,
      sum-added base.books.user_calls (calls_from is_user 0 64 more),
      sum-added base.books.term_calls (calls_from is_terminal 0 16 more),
      ap sum (users_more history entry a),
      ap sum (terminals_more history entry a),
      sums_more entry.who users terminals (length-calls is_user 0 64 history) (length-calls is_terminal 0 16 history) a,
    )

-- the tally counted an entry
pub record Counted (old : Tally) (entry : Entry) (new : Tally) : Type 0 where
  pub user_calls : new.user_calls ≡ users_after entry.who old.user_calls
  pub term_calls : new.term_calls ≡ terminals_after entry.who old.term_calls
  pub messages : new.messages ≡ old.messages + messages_in entry.answer
  pub octets : new.octets ≡ old.octets + octets_of entry.event entry.answer
  pub entries : new.entries ≡ old.entries + 1

tally_more : (old new : Tally) (books books' : Books) (entry : Entry) → IsTally old books → Counted old entry new → BooksGain books entry.who entry.event entry.answer books' → sum books'.user_calls + sum books'.term_calls ≡ sum books.user_calls + sum books.term_calls + 1
    → IsTally new books'
tally_more old new books books' entry t c g one_more = record {
  user_calls = c.user_calls ∙ ap (users_after entry.who) t.user_calls ∙ sym g.user_calls;
  term_calls = c.term_calls ∙ ap (terminals_after entry.who) t.term_calls ∙ sym g.term_calls;
  messages = c.messages ∙ ap (λ (n : ℕ). n + messages_in entry.answer) t.messages ∙ sym g.messages;
  octets = c.octets ∙ ap (λ (n : ℕ). n + octets_of entry.event entry.answer) t.octets ∙ sym g.octets;
  entries = c.entries ∙ ap (λ (n : ℕ). n + 1) t.entries ∙ sym one_more;
}

-- what users ask acknowledges nothing
asks_acknowledge_none : (s : State) (number : ℕ) (event : Event) → IsOwn (User number) event → (counts_of (step s event).state.rows).acked ≡ (counts_of s.rows).acked
unfolding step
asks_acknowledge_none s number (Offer body) own = grind (arith, filter-append, length-append)
asks_acknowledge_none s number Take own = grind arith
asks_acknowledge_none s number (Find message) own = grind arith
asks_acknowledge_none s number _ own = absurd own

-- what terminals ask and tell accepts nothing
tells_accept_none : (s : State) (link : ℕ) (event : Event) → IsOwn (Terminal link) event → AcceptsNone event (step s event).answer
tells_accept_none s link (Offer body) own = absurd own
tells_accept_none s link Take own = absurd own
tells_accept_none s link (Find message) own = absurd own
tells_accept_none s link (Next n) own = accepts_none s (Next n) refl
tells_accept_none s link (Heard n unit) own = accepts_none s (Heard n unit) refl
tells_accept_none s link (Up n) own = accepts_none s (Up n) refl
tells_accept_none s link (Down n) own = accepts_none s (Down n) refl
tells_accept_none s link (DownBlind n) own = accepts_none s (DownBlind n) refl
tells_accept_none s link (NoAnswer n) own = accepts_none s (NoAnswer n) refl
tells_accept_none s link (Timed n) own = accepts_none s (Timed n) refl
tells_accept_none s link (Restore n) own = accepts_none s (Restore n) refl
tells_accept_none s link (Redeclare n) own = accepts_none s (Redeclare n) refl
tells_accept_none s link (BackTimeout n) own = accepts_none s (BackTimeout n) refl
tells_accept_none s link (Test n) own = accepts_none s (Test n) refl

-- The counts: the rows', and those of what left them.
abbrev given_up : FinishedCounts → ℕ
given_up f = f.emergency + f.unreasonable + f.no_answer

total_in : (s : State) → total_of (counts_in s) ≡ s.finished.acked + given_up s.finished + total_of (counts_of s.rows)
total_in s = omega arith

-- no entry changes what the set was opened with
settings_stay : (s : State) (history : List Entry) → (after s history).settings ≡ s.settings
settings_stay s [] = refl
settings_stay s (entry ∷ entries) = settings_stay (step s entry.event).state entries ∙ (step_grows s entry.event).settings_same

pub opened_entries : (config : SetConfig) (history : List Entry) → entries_of (opening_of config) history ≡ length history
opened_entries config history = omega (arith, no_sum 64, no_sum 16)

-- The step was made, and its entry stands last.
module _ (base : Base) (old new : Kept) (history : List Entry) (entry : Entry) (actor : IsActor entry.who) (agrees : Agrees old (after base.state history)) (answers : AnswersFor (step (after base.state history) entry.event) entry.answer new) where
  pub agrees_more : Agrees new (after base.state (history ++ entry ∷ []))
  agrees_more = rw (after_more base.state history entry) answers.agrees

  pub gains_more : Gains (after base.state history) entry.event entry.answer (after base.state (history ++ entry ∷ []))
  gains_more = rw (after_more base.state history entry, answers.answer_is) (step_gains (after base.state history) entry.event agrees.sound.managed)

  gone_same : (after base.state (history ++ entry ∷ [])).finished ≡ (after base.state history).finished
  gone_same = rw (after_more base.state history entry) ((step_grows (after base.state history) entry.event).gone_same)

  pub is_step : IsStep (with_history base history) entry.who entry.event entry.answer (with_history base (history ++ entry ∷ []))
  is_step = record { base_is = refl; answer_is = answers.answer_is; state_is = after_more base.state history entry; history_is = refl }

  -- the books of a set that keeps a number of calls for each actor
  module _ (users : length base.books.user_calls ≡ 64) (terminals : length base.books.term_calls ≡ 16) where
    pub gained : BooksGain (books_of base history) entry.who entry.event entry.answer (books_of base (history ++ entry ∷ []))
    gained =
        let acked = gains_more.acknowledged in
        record {
          user_calls = ap (added base.books.user_calls) (users_more history entry actor) ∙ users_added entry.who base.books.user_calls (calls_from is_user 0 64 history) users (length-calls is_user 0 64 history) actor;
          term_calls = ap (added base.books.term_calls) (terminals_more history entry actor) ∙ terminals_added entry.who base.books.term_calls (calls_from is_terminal 0 16 history) terminals (length-calls is_terminal 0 16 history) actor;
          messages = omega (arith, messages_more history entry);
          octets = omega (arith, octets_more history entry);
          acknowledged = omega (arith, acked, ap (λ (f : FinishedCounts). f.acked) gone_same);
          own = λ own. no_other entry.who refl own;
        }
      where
        no_other : (who : Actor) → entry.who ≡ who → IsOwn who entry.event → GainsNoOther who (books_of base history) (books_of base (history ++ entry ∷ []))
        no_other (User number) e own =
            let none : (counts_of (after base.state (history ++ entry ∷ [])).rows).acked ≡ (counts_of (after base.state history).rows).acked = rw (after_more base.state history entry) (asks_acknowledge_none (after base.state history) number entry.event own) in
            omega (arith, none, ap (λ (f : FinishedCounts). f.acked) gone_same)
        no_other (Terminal link) e own =
            let none = tells_accept_none (after base.state history) link entry.event own in
            let message : messages_in entry.answer ≡ 0 = ap messages_in answers.answer_is ∙ none.0 in
            let octet : octets_of entry.event entry.answer ≡ 0 = ap (octets_of entry.event) answers.answer_is ∙ none.1 in
            (omega (arith, messages_more history entry, message), omega (arith, octets_more history entry, octet))

  pub kept_more : (tally tally' : Tally) → IsKept base old tally history → entries_of base history < 2 ^ 48 → Counted tally entry tally' → IsKept base new tally' (history ++ entry ∷ [])
  kept_more tally tally' k room counted =
      let long : entries_of base (history ++ entry ∷ []) ≡ entries_of base history + 1 = omega (arith, length-append history (entry ∷ [])) in
      let gains = gains_more in
      let brought = gains.messages in
      let octets = gains.octets in
      let gone = gone_same in
      let placed = k.placed in
      let messages = k.messages in
      let was = k.octets in
      let before = k.calls in
      let calls = calls_more base history entry k.calls actor in
      record {
        legal = legal_more base.state history entry k.legal actor answers.answer_is;
        agrees = agrees_more;
        counted = tally_more tally tally' (books_of base history) (books_of base (history ++ entry ∷ [])) entry k.counted counted (gained k.users k.terminals) (omega (arith, calls, long, before));
        users = k.users;
        terminals = k.terminals;
        calls = calls;
        placed = omega (
          arith,
          brought,
          placed,
          messages_more history entry,
          total_in (after base.state history),
          total_in (after base.state (history ++ entry ∷ [])),
          ap (λ (f : FinishedCounts). f.acked + given_up f) gone,
        );
        short = omega (arith, long, room);
        messages = omega (arith, long, messages, messages_more history entry, one_message entry.answer);
        octets = omega (arith, long, octets_more history entry, was, octets);
        few = rw (long, after_more base.state history entry) (step_at_most (after base.state history) entry.event (λ n. record { sent = entries_of base history; accepted = entries_of base history }) k.few);
      }

-- what the tally has, and how many are acknowledged, are the books
pub books_told : (tally : Tally) (books : Books) (acked : ℕ) → IsTally tally books → acked ≡ books.acknowledged
    → books_by tally acked ≡ books
books_told tally books acked t a = rw (t.user_calls, t.term_calls, t.messages, t.octets, a) refl

-- The bounds.
pub few_more : (events more : ℕ) (s : State) → events ≤ more → AreFew events s → AreFew more s
few_more events more s h a = λ number link there.
    let f = a number link there in
    record { sent = let low = f.sent in omega (arith, h, low); accepted = let low = f.accepted in omega (arith, h, low) }

-- those that left a link's rows were acknowledged or given up
pub few_left : (events : ℕ) (s : State) → AreFew events s → AreFew events (checkpointed s)
few_left events s a = λ number link there.
    let f = a number link there in
    let sent = f.sent in
    record { sent = omega (arith, sent, ap length (stand_still (is_unacked number) (λ f e. grind arith) s.rows)); accepted = f.accepted }

pub within : (c : Counts) → c.acked ≤ total_of c
within c = omega arith

pub bounded : (base : Base) (kept : Kept) (tally : Tally) (history : List Entry) → IsKept base kept tally history → AreBounded (books_of base history)
bounded base kept tally history k =
    let calls = k.calls in
    let short = k.short in
    let placed = k.placed in
    let messages = k.messages in
    let octets = k.octets in
    record {
      user_calls = all_in_sum (books_of base history).user_calls (2 ^ 48) (omega (arith, calls, short));
      term_calls = all_in_sum (books_of base history).term_calls (2 ^ 48) (omega (arith, calls, short));
      messages = omega (arith, messages, short);
      octets = omega (arith, octets, short);
      acknowledged = omega (arith, placed, within (counts_in (after base.state history)));
    }

pub new_few : (config : SetConfig) → AreFew 0 (new_state config)
new_few config = (opened_new (settings_of config) (record { some_link = config.has_links; at_most_16 = config.links_in_range; managed = config.management })).few

-- A BASE

-- the books of a base, of which nothing was asked yet, are its own
module _ (base : Base) (users : length base.books.user_calls ≡ 64) (terminals : length base.books.term_calls ≡ 16) where
  pub books_begin : base.books.acknowledged ≡ (counts_in base.state).acked → books_of base [] ≡ base.books
  books_begin acked = rw (none_added is_user base.books.user_calls 0 64 users, none_added is_terminal base.books.term_calls 0 16 terminals, ← acked) (grind arith)

  -- what is kept of it is what a set keeps that goes on from it
  kept_begin : (kept : Kept) (tally : Tally) → Agrees kept base.state → IsTally tally base.books → base.books.acknowledged ≡ (counts_in base.state).acked → total_of (counts_in base.state) ≡ base.books.messages → entries_of base [] ≤ 2 ^ 48 → base.books.messages ≤ entries_of base [] → base.books.octets ≤ 273 * entries_of base [] → AreFew (entries_of base []) base.state
      → IsKept base kept tally []
  kept_begin kept tally agrees counted acked placed short messages octets few =
      let same = books_begin acked in
      record {
        legal = tt;
        agrees = agrees;
        counted = rw same counted;
        users = users;
        terminals = terminals;
        calls = ap (λ (b : Books). sum b.user_calls + sum b.term_calls) same ∙ omega arith;
        placed = placed ∙ sym (ap (λ (b : Books). b.messages) same);
        short = short;
        messages = omega (arith, messages);
        octets = omega (arith, octets);
        few = few;
      }

-- a base is shown by the tally of its books
abbrev with_books : State → Books → Base
with_books s books = record { state = s; books = books }

books_at : (s : State) (tally : Tally) (books : Books) → IsTally tally books → (counts_in s).acked ≡ books.acknowledged → base_at s tally ≡ record { state = s; books = books }
books_at s tally books t a = ap (with_books s) (books_told tally books (counts_in s).acked t a)

-- of a set that is opened
pub opened_base : (config : SetConfig) (kept : Kept) (tally : Tally) → Agrees kept (new_state config) → IsTally tally no_books → base_of [] kept tally ≡ opening_of config
opened_base config kept tally agrees t =
    let state : shown [] kept ≡ new_state config = shown_is kept (new_state config) agrees.stands in
    ap (λ (s : State). base_at s tally) state ∙ books_at (new_state config) tally no_books t refl

pub kept_new : (config : SetConfig) (kept : Kept) (tally : Tally) → Agrees kept (new_state config) → IsTally tally no_books → IsKept (opening_of config) kept tally []
kept_new config kept tally agrees counted =
    let none = opened_entries config [] in
    kept_begin (opening_of config) (length-replicate {A = ℕ} 64 0) (length-replicate {A = ℕ} 16 0) kept tally agrees counted refl refl (omega (arith, none)) (omega arith) (omega arith) (rw none (new_few config))

-- a checkpoint
module _ (base : Base) (kept : Kept) (tally : Tally) (history : List Entry) (k : IsKept base kept tally history) where
  abbrev now : LinkSet
  now = with_history base history

  pub based_books : books_in (based now) ≡ books_in now
  based_books =
      books_begin (based now).base
      (length-added base.books.user_calls (calls_from is_user 0 64 history) (k.users ∙ sym (length-calls is_user 0 64 history)) ∙ k.users)
      (length-added base.books.term_calls (calls_from is_terminal 0 16 history) (k.terminals ∙ sym (length-calls is_terminal 0 16 history)) ∙ k.terminals)
      (sym (ap (λ (c : Counts). c.acked) (counts_stay now.state)))

  pub based_entries : entries_in (based now) ≡ entries_in now
  based_entries = let calls = k.calls in omega (arith, calls)

  pub based_settings : (based now).base.state.settings ≡ base.state.settings
  based_settings = settings_stay base.state history

  -- what goes on from it
  pub with_based : (begun : Base) (since : List Entry) → begun ≡ (based now).base → since ≡ [] → with_history begun since ≡ based now
  with_based begun since b e = rw (b, e) refl

  module _ (new : Kept) (agrees : Agrees new (checkpointed now.state)) where
    based_is : base_of (numbers (checkpointed now.state).rows) new tally ≡ (based now).base
    based_is =
        let state : shown (numbers (checkpointed now.state).rows) new ≡ checkpointed now.state = shown_is new (checkpointed now.state) agrees.stands in
        ap (λ (s : State). base_at s tally) state ∙ books_at (checkpointed now.state) tally (books_in now) k.counted (ap (λ (c : Counts). c.acked) (counts_stay now.state))

    kept_based : IsKept (based now).base new tally []
    kept_based =
        let calls = k.calls in
        let short = k.short in
        let messages = k.messages in
        let octets = k.octets in
        let same : entries_of (based now).base [] ≡ entries_of base history = omega (arith, calls) in
        kept_begin (based now).base
        (length-added base.books.user_calls (calls_from is_user 0 64 history) (k.users ∙ sym (length-calls is_user 0 64 history)) ∙ k.users)
        (length-added base.books.term_calls (calls_from is_terminal 0 16 history) (k.terminals ∙ sym (length-calls is_terminal 0 16 history)) ∙ k.terminals)
        new tally agrees k.counted (sym (ap (λ (c : Counts). c.acked) (counts_stay now.state)))
        (ap total_of (counts_stay now.state) ∙ k.placed)
        (omega (arith, same, short)) (omega (arith, same, messages)) (omega (arith, same, octets))
        (rw same (few_left (entries_of base history) now.state k.few))

    -- a set goes on from it
    pub kept_on : (begun : Base) (since : List Entry) → begun ≡ (based now).base → since ≡ [] → IsKept begun new tally since
    kept_on begun since b e = subst (λ (entries : List Entry). IsKept begun new tally entries) (sym e) (subst (λ (b : Base). IsKept b new tally []) (sym b) kept_based)

    -- it's shown by what is kept, and by the order of its rows
    module _ (order : List ℕ) (rows : order ≡ numbers (checkpointed now.state).rows) where
      pub shown_based : base_of order new tally ≡ (based now).base
      shown_based = ap (λ (ns : List ℕ). base_of ns new tally) rows ∙ based_is

      pub kept_by : IsKept (base_of order new tally) new tally []
      kept_by = subst (λ (b : Base). IsKept b new tally []) (sym shown_based) kept_based
