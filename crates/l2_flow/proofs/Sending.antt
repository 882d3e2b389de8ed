-- Messages are unacknowledged only after one was sent, where an acknowledgement leaves some only then.
use Rattle.std.proofs.Common.{◌≡◌, Bool, true, false, ◌||◌, ◌⊎◌, inl, inr, List, [], ◌∷◌, ◌++◌, refl, sym, ap, ◌∙◌, append_assoc}
use Rattle.std.specs.List.{list_any}
use Rattle.std.proofs.lemmas.List.Folds.{list_any-append}
use Rattle.l2_flow.specs.declared.input.FlowIn.{FlowIn}
use Rattle.l2_flow.specs.declared.input.FlowIn.TheVariants.{Acked, Sent, Resumed, Reset}
use Rattle.l2_flow.specs.Laws.{begins_wait, ends_wait, is_more, is_sent, is_reset, SentSinceReset, MoreOnlyAfterSent, AwaitsAcknowledgement}
use Rattle.l2_flow.proofs.Lasting.{or_false}

begins_wait-cases : (input : FlowIn) → begins_wait input ≡ true → (is_sent input ≡ true) ⊎ (is_more input ≡ true)
begins_wait-cases Sent e = inl refl
begins_wait-cases (Acked more) e = inr e
begins_wait-cases (Resumed more) e = inr e
begins_wait-cases _ e = inl e

is_more-no_reset : (input : FlowIn) → is_more input ≡ true → is_reset input ≡ false
is_more-no_reset Reset e = sym e
is_more-no_reset _ e = refl

is_reset-none : (input : FlowIn) → ends_wait input ≡ false → is_reset input ≡ false
is_reset-none Reset e = e
is_reset-none _ e = refl

or_none : (a b : Bool) → a ≡ false → b ≡ false → (a || b) ≡ false
or_none true b e f = e
or_none false b e f = f

list_any-is_reset : (inputs : List FlowIn) → list_any ends_wait inputs ≡ false → list_any is_reset inputs ≡ false
list_any-is_reset [] none = refl
list_any-is_reset (input ∷ inputs) none =
    let parts = or_false (ends_wait input) (list_any ends_wait inputs) none in
    or_none (is_reset input) (list_any is_reset inputs) (is_reset-none input parts.0) (list_any-is_reset inputs parts.1)

pub SentSinceReset-awaiting : (inputs : List FlowIn) → MoreOnlyAfterSent inputs → AwaitsAcknowledgement inputs → SentSinceReset inputs
SentSinceReset-awaiting inputs real s =
    let no_reset = list_any-is_reset s.after s.lasts in
    elim (begins_wait-cases s.entry s.begun) [
      | inl sent ↦ record { before = s.before; entry = s.entry; after = s.after; split = s.split; begun = sent; lasts = no_reset }
      | inr more ↦
          let earlier = real s.before s.entry s.after more s.split in
          record {
            before = earlier.before;
            entry = earlier.entry;
            after = earlier.after ++ s.entry ∷ s.after;
            split = s.split ∙ ap (λ inputs. inputs ++ s.entry ∷ s.after) earlier.split ∙ append_assoc earlier.before (earlier.entry ∷ earlier.after) (s.entry ∷ s.after);
            begun = earlier.begun;
            lasts = list_any-append is_reset earlier.after (s.entry ∷ s.after) ∙ or_none _ _ earlier.lasts (or_none _ _ (is_more-no_reset s.entry more) no_reset);
          }
    ]
