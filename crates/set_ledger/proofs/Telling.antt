-- What a set tells of its settings and its totals.
use Rattle.std.proofs.Common.{arith, ◌≡◌, ◌∙◌, ap, refl, sym, subst, ◌≤◌, ◌+◌, ℕ, List, [], ◌∷◌, ◌++◌}
use Rattle.std.proofs.lemmas.List.{length-append}
use Rattle.set_events.specs.declared.books.Books.{Books}
use Rattle.set_events.specs.declared.config.SetConfig.{SetConfig}
use Rattle.set_events.specs.declared.history.Entry.{Entry}
use Rattle.set_model.proofs.Staying.{step_grows}
use Rattle.set_model.specs.Checkpoint.{checkpointed, counts_in}
use Rattle.set_model.specs.Rows.{total_of}
use Rattle.set_events.specs.declared.answer.Counts.{Counts}
use Rattle.set_model.specs.History.{Base, LinkSet, IsLegal, after, based, books_in, entries_in, longest_history}
use Rattle.set_model.specs.State.{Settings, State, settings_of}
use Rattle.set_model.specs.Step.{step}
use Rattle.set_ledger.specs.declared.share.SeatShare.{SeatShare}
use Rattle.set_ledger.specs.Openings.{AreLegal, IsBaseBehind, IsBaseOf, IsSetOf, base_after, next_base, opening_with}
use Rattle.set_ledger.specs.Totals.{AreTotals, IsPartOf, StandsIn, totals_of}

-- what goes on from a base of these settings is a set of theirs
pub set_of : (settings : Settings) (set : LinkSet) → IsBaseOf settings set.base → IsLegal set.base.state set.history → set.state ≡ after set.base.state set.history → entries_in set ≤ longest_history → IsSetOf settings set
set_of settings set is legal agrees short = record { base_of = is; legal = legal; state_is = agrees; short = short }

-- AN OPENING is such a base
pub opens : (settings : Settings) (base : Base) → base ≡ opening_with settings → IsBaseBehind settings 0 base
opens settings base is = record { is_base = record { histories = []; legal = tt; base_is = is }; as_many = refl }

-- one history more, and a checkpoint after it
after_more : (base : Base) (histories : List (List Entry)) (history : List Entry) → base_after base (histories ++ history ∷ []) ≡ next_base (base_after base histories) history
after_more base [] history = refl
after_more base (first ∷ histories) history = after_more (next_base base first) histories history

legal_more : (base : Base) (histories : List (List Entry)) (history : List Entry) → AreLegal base histories → IsLegal (base_after base histories).state history → AreLegal base (histories ++ history ∷ [])
legal_more base [] history legal more = (more, tt)
legal_more base (first ∷ histories) history legal more = (legal.0, legal_more (next_base base first) histories history legal.1 more)

pub checkpoints : (settings : Settings) (many : ℕ) (set : LinkSet) → IsBaseBehind settings many set.base → IsLegal set.base.state set.history → set.state ≡ after set.base.state set.history → IsBaseBehind settings (many + 1) (based set).base
checkpoints settings many set behind legal agrees =
    let is = behind.is_base in
    let were = behind.as_many in record {
      is_base = record {
        histories = is.histories ++ set.history ∷ [];
        legal = legal_more (opening_with settings) is.histories set.history is.legal (subst (λ (base : Base). IsLegal base.state set.history) is.base_is legal);
        base_is = ap (λ (s : State). record { state = checkpointed s; books = books_in set }) agrees ∙ ap (λ (base : Base). next_base base set.history) is.base_is ∙ sym (after_more (opening_with settings) is.histories set.history);
      };
      as_many = omega (arith, were, length-append is.histories (set.history ∷ []));
    }

-- its settings are those that it was opened with
settings_stay : (s : State) (history : List Entry) → (after s history).settings ≡ s.settings
settings_stay s [] = refl
settings_stay s (entry ∷ entries) = settings_stay (step s entry.event).state entries ∙ (step_grows s entry.event).settings_same

settings_after : (base : Base) (histories : List (List Entry)) → (base_after base histories).state.settings ≡ base.state.settings
settings_after base [] = refl
settings_after base (history ∷ histories) = settings_after (next_base base history) histories ∙ settings_stay base.state history

pub settings_told : (config : SetConfig) (base : Base) (settings : Settings) → settings_of config ≡ base.state.settings → IsBaseOf settings base → settings_of config ≡ settings
settings_told config base settings told is = told ∙ ap (λ (b : Base). b.state.settings) is.base_is ∙ settings_after (opening_with settings) is.histories

-- totals are read off the entries and the books
pub totals_told : (set : LinkSet) (books : Books) (calls : ℕ) → books ≡ books_in set → calls ≡ entries_in set → AreTotals (totals_of calls books.messages books.octets books.acknowledged) set
totals_told set books calls are many = record {
  calls_is = many;
  messages_is = ap (λ (b : Books). b.messages) are;
  octets_is = ap (λ (b : Books). b.octets) are;
  acknowledged_is = ap (λ (b : Books). b.acknowledged) are;
}

-- and stay where those do
pub totals_stay : (totals : SeatShare) (old new : LinkSet) → books_in new ≡ books_in old → entries_in new ≡ entries_in old → AreTotals totals old → AreTotals totals new
totals_stay totals old new books entries are = record {
  calls_is = are.calls_is ∙ sym entries;
  messages_is = are.messages_is ∙ sym (ap (λ (b : Books). b.messages) books);
  octets_is = are.octets_is ∙ sym (ap (λ (b : Books). b.octets) books);
  acknowledged_is = are.acknowledged_is ∙ sym (ap (λ (b : Books). b.acknowledged) books);
}

-- a set has one sum of each
pub same_totals : (set : LinkSet) (one other : SeatShare) → AreTotals one set → AreTotals other set → one ≡ other
same_totals set one other a b =
    ap (λ n. totals_of n one.messages one.octets one.acknowledged) (a.calls_is ∙ sym b.calls_is)
    ∙ ap (λ n. totals_of other.calls n one.octets one.acknowledged) (a.messages_is ∙ sym b.messages_is)
    ∙ ap (λ n. totals_of other.calls other.messages n one.acknowledged) (a.octets_is ∙ sym b.octets_is)
    ∙ ap (λ n. totals_of other.calls other.messages other.octets n) (a.acknowledged_is ∙ sym b.acknowledged_is)

-- what a seat has of the totals stands in the set's counts
pub stands_in : (set : LinkSet) (counts : Counts) (share totals : SeatShare) → AreTotals totals set → IsPartOf share totals → set.state ≡ after set.base.state set.history → counts ≡ counts_in set.state → total_of counts ≡ (books_in set).messages → StandsIn share counts
stands_in set counts share totals are part agrees told all =
    let messages_are = are.messages_is in
    let acked_are = are.acknowledged_is in
    let few_messages = part.messages in
    let few_acked = part.acknowledged in
    let acked : counts.acked ≡ (books_in set).acknowledged = ap (λ (c : Counts). c.acked) (told ∙ ap counts_in agrees) in
    record {
      messages = omega (arith, all, messages_are, few_messages);
      acknowledged = omega (arith, acked, acked_are, few_acked);
    }
