-- Items that are heard one after another.
use Rattle.std.proofs.Common.{refl, arith, ◌≡◌, ◌∙◌, ap, sym, subst, ◌<◌, ◌≤◌, ◌^◌, [], ◌∷◌, ◌++◌, length, take, ℕ, zero, suc, ◌+◌, true, false, List, Option, None, Some, slice_index, append-nil}
use Rattle.std.proofs.lemmas.List.{length-append}
use Rattle.std.proofs.lemmas.Bool.Decides.{nat_tests}
use Rattle.set_core.specs.FirstWrong.{answer_at, answer_to, is_actor}
use Rattle.set_core.specs.Hearing.{CanGoOn, HasHeard, Hearing, IsEntry, IsWrongNext, entry_of, hearing_of, unasked}
use Rattle.set_core.specs.Keeping.{IsKept}
use Rattle.set_core.specs.declared.tally.Tally.{Tally}
use Rattle.set_core.specs.declared.item.Item.{Item}
use Rattle.set_core.specs.declared.item.Item.TheVariants.{Entered, Checkpoint}
use Rattle.set_core.specs.Items.{AreLegal, IsRight, after_items, books_over, entries_among, left_by}
use Rattle.set_core.proofs.Running.{after_both, entries_both, legal_both}
use Rattle.set_core.proofs.Calls.{in_sum, length-calls, no_sum, users_added, terminals_added}
use Rattle.set_core.proofs.Keeping.{Counted, few_left, messages_more, octets_more, terminals_more, users_more}
use Rattle.set_core.specs.Gaining.{one_more, users_after, terminals_after}
use Rattle.set_events.specs.declared.answer.Answer.{Answer}
use Rattle.set_events.specs.declared.answer.Answer.TheVariants.{Accepted}
use Rattle.set_events.specs.declared.event.Event.{Event}
use Rattle.set_events.specs.declared.books.Books.{Books}
use Rattle.set_events.specs.declared.event.Actor.{Actor}
use Rattle.set_events.specs.declared.event.Actor.TheVariants.{User, Terminal}
use Rattle.set_events.specs.declared.history.Entry.{Entry}
use Rattle.set_model.proofs.Staying.{step_at_most, step_gains}
use Rattle.set_model.specs.Checkpoint.{checkpointed, counts_in}
use Rattle.set_model.specs.History.{Base, IsActor, added, books_of, calls_from, entries_of, is_terminal, is_user, messages_of, octets_in_all}
use Rattle.set_model.specs.State.{State}
use Rattle.set_model.specs.Step.{messages_in, octets_of, step}
use Rattle.set_changeover.specs.Agreement.{Agrees, Kept}
use Rattle.set_step.specs.Answering.{AnswersFor}

-- Places.

front : (items : List Item) (item : Item) (more : List Item) → take (length items) (items ++ item ∷ more) ≡ items
front [] item more = refl
front (x ∷ items) item more = ap (λ (l : List Item). x ∷ l) (front items item more)

pub front_with : (items : List Item) (item : Item) (more : List Item) → take (length items + 1) (items ++ item ∷ more) ≡ items ++ item ∷ []
front_with [] item more = refl
front_with (x ∷ items) item more =
    let next : length (x ∷ items) + 1 ≡ suc (length items + 1) = omega arith in
    rw next (ap (λ (l : List Item). x ∷ l) (front_with items item more))

answered_at : (s : State) (items : List Item) (item : Item) (more : List Item) → answer_at s (items ++ item ∷ more) (length items) ≡ answer_to (after_items s items) item
answered_at s [] item more = refl
answered_at s (x ∷ items) item more = answered_at (left_by s x) items item more

-- one item more
pub after_next : (s : State) (items : List Item) (item : Item) → after_items s (items ++ item ∷ []) ≡ left_by (after_items s items) item
after_next s items item = after_both s items (item ∷ [])

legal_next : (s : State) (items : List Item) (item : Item) → AreLegal s items → IsRight (after_items s items) item → AreLegal s (items ++ item ∷ [])
legal_next s items item l r = (legal_both s items (item ∷ [])).1 (l, (r, tt))

pub entries_next : (items : List Item) (entry : Entry) → entries_among (items ++ Entered entry ∷ []) ≡ entries_among items ++ entry ∷ []
entries_next items entry = entries_both items (Entered entry ∷ [])

entries_same : (items : List Item) → entries_among (items ++ Checkpoint ∷ []) ≡ entries_among items
entries_same items = entries_both items (Checkpoint ∷ []) ∙ append-nil (entries_among items)

-- an item that isn't right is the first wrong one
pub wrong_next : (opening : State) (items : List Item) (item : Item) (answer : Option Answer) → IsEntry item → AreLegal opening items → (IsRight (after_items opening items) item → ⊥) → answer_to (after_items opening items) item ≡ answer
    → IsWrongNext opening items item answer
wrong_next opening items item answer entry legal wrong is = record {
  is_entry = entry;
  first = λ more. record {
    within = omega (arith, length-append items (item ∷ more));
    legal = rw (front items item more) legal;
    wrong = λ l. wrong ((legal_both opening items (item ∷ [])).0 (rw (front_with items item more) at l)).1.0;
  };
  there = λ more. answered_at opening items item more ∙ is;
}

pub actor_is : (who : Actor) → true ≡ is_actor who → IsActor who
actor_is (User n) e = grind (arith, nat_tests, e)
actor_is (Terminal n) e = grind (arith, nat_tests, e)

-- THE SUMS
module _ (base : Base) (items : List Item) (old new : Hearing) (entry : Entry) (heard : HasHeard base items old) (counts : Counted old.tally entry new.tally) (actor : IsActor entry.who) where
  users_next : new.tally.user_calls ≡ (books_over base (items ++ Entered entry ∷ [])).user_calls
  users_next =
      let es = entries_among items in
      let all = base.books.user_calls in
      counts.user_calls ∙ ap (users_after entry.who) heard.user_calls
      ∙ sym (users_added entry.who all (calls_from is_user 0 64 es) heard.users (length-calls is_user 0 64 es) actor)
      ∙ ap (added all) (sym (ap (calls_from is_user 0 64) (entries_next items entry) ∙ users_more es entry actor))

  terminals_next : new.tally.term_calls ≡ (books_over base (items ++ Entered entry ∷ [])).term_calls
  terminals_next =
      let es = entries_among items in
      let all = base.books.term_calls in
      counts.term_calls ∙ ap (terminals_after entry.who) heard.term_calls
      ∙ sym (terminals_added entry.who all (calls_from is_terminal 0 16 es) heard.terminals (length-calls is_terminal 0 16 es) actor)
      ∙ ap (added all) (sym (ap (calls_from is_terminal 0 16) (entries_next items entry) ∙ terminals_more es entry actor))

  pub heard_next : AnswersFor (step (after_items base.state items) entry.event) entry.answer new.core → HasHeard base (items ++ Entered entry ∷ []) new
  heard_next answers =
      let es = entries_among items in
      let more = entries_next items entry in
      let messages : messages_of (entries_among (items ++ Entered entry ∷ [])) ≡ messages_of es + messages_in entry.answer = ap messages_of more ∙ messages_more es entry in
      let octets : octets_in_all (entries_among (items ++ Entered entry ∷ [])) ≡ octets_in_all es + octets_of entry.event entry.answer = ap octets_in_all more ∙ octets_more es entry in
      let long : length (entries_among (items ++ Entered entry ∷ [])) ≡ length es + 1 = ap length more ∙ length-append es (entry ∷ []) in
      let m = heard.messages in
      let o = heard.octets in
      let e = heard.entries in
      let mm = counts.messages in
      let oo = counts.octets in
      let one = counts.entries in
      record {
        legal = legal_next base.state items (Entered entry) heard.legal (actor, answers.answer_is);
        agrees = rw (after_next base.state items (Entered entry)) answers.agrees;
        user_calls = users_next;
        term_calls = terminals_next;
        messages = omega (arith, messages, m, mm);
        octets = omega (arith, octets, o, oo);
        entries = omega (arith, long, e, one);
        users = heard.users;
        terminals = heard.terminals;
      }

-- nothing was heard since a base
module _ (base : Base) (kept core : Kept) (tally : Tally) (answer : Answer) (k : IsKept base kept tally []) (agrees : Agrees core base.state) where
  as_many : tally.entries ≡ entries_of base []
  as_many = k.counted.entries ∙ k.calls

  pub heard_none : HasHeard base [] (hearing_of core tally answer)
  heard_none = record {
    legal = tt;
    agrees = agrees;
    user_calls = k.counted.user_calls;
    term_calls = k.counted.term_calls;
    messages = k.counted.messages;
    octets = k.counted.octets;
    entries = as_many;
    users = k.users;
    terminals = k.terminals;
  }

  pub can_begin : CanGoOn (hearing_of core tally answer)
  can_begin =
      let many = as_many in
      let calls = k.calls in
      let short = k.short in
      let messages = k.messages in
      let octets = k.octets in
      let m = k.counted.messages in
      let o = k.counted.octets in
      record {
        state = base.state;
        agrees = agrees;
        few = rw many k.few;
        short = omega (arith, many, short);
        user_calls = λ n. rw k.counted.user_calls (omega (arith, in_sum (books_of base []).user_calls n, calls, many));
        term_calls = λ n. rw k.counted.term_calls (omega (arith, in_sum (books_of base []).term_calls n, calls, many));
        messages = omega (arith, m, messages, many);
        octets = omega (arith, o, octets, many);
      }

-- a checkpoint
pub heard_checkpoint : (base : Base) (items : List Item) (old new : Hearing) → HasHeard base items old → ((s : State) → Agrees old.core s → Agrees new.core (checkpointed s)) → new.tally ≡ old.tally
    → HasHeard base (items ++ Checkpoint ∷ []) new
heard_checkpoint base items old new h kept t =
    let same = entries_same items in
    record {
      legal = legal_next base.state items Checkpoint h.legal tt;
      agrees = rw (after_next base.state items Checkpoint) (kept (after_items base.state items) h.agrees);
      user_calls = rw (t, same) h.user_calls;
      term_calls = rw (t, same) h.term_calls;
      messages = rw (t, same) h.messages;
      octets = rw (t, same) h.octets;
      entries = rw (t, same) h.entries;
      users = h.users;
      terminals = h.terminals;
    }

-- THE BOUNDS
call_more : (number : ℕ) (calls : List ℕ) (n bound : ℕ) → ((k : ℕ) → slice_index calls k ≤ bound) → slice_index (one_more number calls) n ≤ bound + 1
call_more number [] n bound h = omega arith
call_more zero (x ∷ xs) zero bound h = omega (arith, h 0)
call_more zero (x ∷ xs) (suc n) bound h = omega (arith, h (suc n))
call_more (suc j) (x ∷ xs) zero bound h = omega (arith, h 0)
call_more (suc j) (x ∷ xs) (suc n) bound h = call_more j xs n bound (λ k. h (suc k))

user_more : (who : Actor) (calls : List ℕ) (n bound : ℕ) → ((k : ℕ) → slice_index calls k ≤ bound) → slice_index (users_after who calls) n ≤ bound + 1
user_more (User number) calls n bound h = call_more number calls n bound h
user_more (Terminal link) calls n bound h = omega (arith, h n)

terminal_more : (who : Actor) (calls : List ℕ) (n bound : ℕ) → ((k : ℕ) → slice_index calls k ≤ bound) → slice_index (terminals_after who calls) n ≤ bound + 1
terminal_more (User number) calls n bound h = omega (arith, h n)
terminal_more (Terminal link) calls n bound h = call_more link calls n bound h

one_message : (answer : Answer) → messages_in answer ≤ 1
one_message (Accepted number) = omega arith
one_message _ = omega arith

pub few_octets : (s : State) (event : Event) (k : Kept) (answer : Answer) → Agrees k s → answer ≡ (step s event).answer → octets_of event answer ≤ 273
few_octets s event k answer agrees e = rw e (step_gains s event agrees.sound.managed).octets

pub can_hear : (old new : Hearing) (entry : Entry) → CanGoOn old → ((s : State) → Agrees old.core s → AnswersFor (step s entry.event) entry.answer new.core) → old.tally.entries < 2 ^ 48 → Counted old.tally entry new.tally → CanGoOn new
can_hear old new entry c answers room counts =
    let told = answers c.state c.agrees in
    let m = c.messages in
    let o = c.octets in
    let mm = counts.messages in
    let oo = counts.octets in
    let one = counts.entries in
    record {
      state = (step c.state entry.event).state;
      agrees = told.agrees;
      few = rw one (step_at_most c.state entry.event (λ n. record { sent = old.tally.entries; accepted = old.tally.entries }) c.few);
      short = omega (arith, room, one);
      user_calls = λ n. rw (counts.user_calls, one) (user_more entry.who old.tally.user_calls n old.tally.entries c.user_calls);
      term_calls = λ n. rw (counts.term_calls, one) (terminal_more entry.who old.tally.term_calls n old.tally.entries c.term_calls);
      messages = omega (arith, m, mm, one, one_message entry.answer);
      octets = omega (arith, o, oo, one, few_octets c.state entry.event old.core entry.answer c.agrees told.answer_is);
    }

pub can_checkpoint : (old new : Hearing) → CanGoOn old → ((s : State) → Agrees old.core s → Agrees new.core (checkpointed s)) → new.tally ≡ old.tally → CanGoOn new
can_checkpoint old new c kept t = record {
  state = checkpointed c.state;
  agrees = kept c.state c.agrees;
  few = rw t (few_left old.tally.entries c.state c.few);
  short = rw t c.short;
  user_calls = λ n. rw t (c.user_calls n);
  term_calls = λ n. rw t (c.term_calls n);
  messages = rw t c.messages;
  octets = rw t c.octets;
}

-- THE BOOKS
pub books_are : (base : Base) (items : List Item) (h : Hearing) (acked : ℕ) → HasHeard base items h → acked ≡ (counts_in (after_items base.state items)).acked
    → ◌≡◌ {A = Books} (record { user_calls = h.tally.user_calls; term_calls = h.tally.term_calls; messages = h.tally.messages; octets = h.tally.octets; acknowledged = acked }) (books_over base items)
books_are base items h acked heard a = rw (heard.user_calls, heard.term_calls, heard.messages, heard.octets, a) refl

-- from the opening on
pub entries_heard : (opening : State) (items : List Item) (h : Hearing) → HasHeard (unasked opening) items h → h.tally.entries ≡ length (entries_among items)
entries_heard opening items h heard = let all = heard.entries in omega (arith, all, no_sum 64, no_sum 16)

-- WHAT IS FOUND, of what was heard before it

pub checkpoint_found : (base : Base) (items : List Item) (old : Hearing) (core core' : Kept) (tally : Tally) (answer : Answer) → hearing_of core tally answer ≡ old → HasHeard base items old → ((s : State) → Agrees core s → Agrees core' (checkpointed s))
    → HasHeard base (items ++ Checkpoint ∷ []) (hearing_of core' tally answer)
checkpoint_found base items old core core' tally answer is heard kept =
    heard_checkpoint base items (hearing_of core tally answer) (hearing_of core' tally answer) (rw is heard) kept refl

is_no_actor : (who : Actor) → false ≡ is_actor who → IsActor who → ⊥
is_no_actor (User n) e a = absurd (grind (arith, nat_tests, e, a))
is_no_actor (Terminal n) e a = absurd (grind (arith, nat_tests, e, a))

pub nobody_found : (base : Base) (items : List Item) (old : Hearing) (entry : Entry) → false ≡ is_actor entry.who → HasHeard base items old → IsWrongNext base.state items (Entered entry) None
nobody_found base items old entry e heard =
    wrong_next base.state items (Entered entry) None tt heard.legal (λ r. is_no_actor entry.who e r.0) (rw (sym e) refl)

-- of what a set answers to this event of this actor, where this answer was told
module _ (base : Base) (items : List Item) (old : Hearing) (core core' : Kept) (tally tally' : Tally) (answer right : Answer) (entry : Entry) (is : hearing_of core tally answer ≡ old) (heard : HasHeard base items old) (answers : (s : State) → Agrees core s → AnswersFor (step s entry.event) right core') where
  was_heard : HasHeard base items (hearing_of core tally answer)
  was_heard = rw is heard

  told : AnswersFor (step (after_items base.state items) entry.event) right core'
  told = answers (after_items base.state items) was_heard.agrees

  pub wrong_found : true ≡ is_actor entry.who → (right ≡ entry.answer → ⊥) → IsWrongNext base.state items (Entered entry) (Some right)
  wrong_found e differs =
      wrong_next base.state items (Entered entry) (Some right) tt heard.legal (λ r. differs (told.answer_is ∙ sym r.1)) (rw (sym e) (ap Some (sym told.answer_is)))

  pub right_found : IsActor entry.who → right ≡ entry.answer → Counted tally (entry_of entry.who entry.event right) tally' → HasHeard base (items ++ Entered entry ∷ []) (hearing_of core' tally' right)
  right_found actor same counts =
      heard_next base items (hearing_of core tally answer) (hearing_of core' tally' right) entry was_heard
      (subst (λ (a : Answer). Counted tally (entry_of entry.who entry.event a) tally') same counts) actor
      (subst (λ (a : Answer). AnswersFor (step (after_items base.state items) entry.event) a core') same told)
