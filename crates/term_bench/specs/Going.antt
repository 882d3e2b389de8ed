-- THE DOOR TO THE SET, as it is after steps of one link's terminal.
use Rattle.std.specs.Prelude.{◌≡◌, ◌≤◌, ℕ, ◌+◌, List, [], ◌∷◌, ◌++◌, refl, if◌then◌else◌}
use Rattle.std.proofs.Common.{arith, ap, sym, subst, ◌∙◌, add-zero, zero-add, add_assoc, append_assoc}
use Rattle.std.proofs.lemmas.List.{append-nil}
use Rattle.set_events.specs.declared.event.Actor.{Actor}
use Rattle.set_events.specs.declared.event.Actor.TheVariants.{Terminal}
use Rattle.set_events.specs.declared.fault.SetFault.{SetFault}
use Rattle.set_events.specs.declared.history.Entry.{Entry}
use Rattle.set_model.specs.History.{LinkSet, entries_in}
use Rattle.term_bench.specs.Turns.{AreBy, IsTold, brings_message, messages_heard}

-- the set told these faults, while it had so many entries before, and so many after
abbrev pub AreTold : ℕ → ℕ → List SetFault → Type 0
AreTold from to [] = Unit {0}
AreTold from to (fault ∷ faults) = IsTold from to fault × AreTold from to faults

-- the set goes on from the same base, by entries of this link's terminal, so many messages more were heard, it told these
-- faults more, and the late orders that were counted stay
pub record GoesOn (link link' : ℕ) (set set' : LinkSet) (heard heard' : ℕ) (faults faults' : List SetFault) (late late' : List ℕ)
    : Type 0 where
  pub link_is : link' ≡ link
  pub base_is : set'.base ≡ set.base
  pub entries : List Entry
  pub history_is : set'.history ≡ set.history ++ entries
  pub by : AreBy (Terminal link) entries
  pub heard_is : heard' ≡ heard + messages_heard entries
  pub grows : entries_in set ≤ entries_in set'
  pub told : List SetFault
  pub faults_are : faults' ≡ faults ++ told
  pub told_is : AreTold (entries_in set) (entries_in set') told
  pub late_is : late' ≡ late

by-append : (who : Actor) (xs ys : List Entry) → AreBy who xs → AreBy who ys → AreBy who (xs ++ ys)
by-append who [] ys a b = b
by-append who (x ∷ xs) ys a b = (a.0, by-append who xs ys a.1 b)

pub heard-append : (xs ys : List Entry) → messages_heard (xs ++ ys) ≡ messages_heard xs + messages_heard ys
heard-append [] ys = sym (zero-add (messages_heard ys))
heard-append (x ∷ xs) ys =
    ap (λ n. (if brings_message x.answer then 1 else 0) + n) (heard-append xs ys)
    ∙ sym (add_assoc (if brings_message x.answer then 1 else 0) (messages_heard xs) (messages_heard ys))

told_within : (from from' to to' : ℕ) → from' ≤ from → to ≤ to' → (faults : List SetFault) → AreTold from to faults
    → AreTold from' to' faults
told_within from from' to to' earlier later [] told = tt
told_within from from' to to' earlier later (fault ∷ faults) told = (
  record {
    entries = told.0.entries;
    begun = omega (arith, earlier, told.0.begun);
    ended = omega (arith, later, told.0.ended);
    full = told.0.full;
  },
  told_within from from' to to' earlier later faults told.1,
)

told-append : (from to : ℕ) (xs ys : List SetFault) → AreTold from to xs → AreTold from to ys → AreTold from to (xs ++ ys)
told-append from to [] ys a b = b
told-append from to (x ∷ xs) ys a b = (a.0, told-append from to xs ys a.1 b)

pub stands_still : (link : ℕ) (set : LinkSet) (heard : ℕ) (faults : List SetFault) (late : List ℕ)
    → GoesOn link link set set heard heard faults faults late late
stands_still link set heard faults late = record {
  link_is = refl;
  base_is = refl;
  entries = [];
  history_is = sym (append-nil set.history);
  by = tt;
  heard_is = sym (add-zero heard);
  grows = omega arith;
  told = [];
  faults_are = sym (append-nil faults);
  told_is = tt;
  late_is = refl;
}

pub goes_further : (link link' link'' : ℕ) (set set' set'' : LinkSet) (heard heard' heard'' : ℕ) (faults faults' faults'' : List SetFault)
    (late late' late'' : List ℕ) → GoesOn link link' set set' heard heard' faults faults' late late'
    → GoesOn link' link'' set' set'' heard' heard'' faults' faults'' late' late''
    → GoesOn link link'' set set'' heard heard'' faults faults'' late late''
goes_further link link' link'' set set' set'' heard heard' heard'' faults faults' faults'' late late' late'' first second = record {
  link_is = second.link_is ∙ first.link_is;
  base_is = second.base_is ∙ first.base_is;
  entries = first.entries ++ second.entries;
  history_is = second.history_is ∙ ap (λ (es : List Entry). es ++ second.entries) first.history_is
      ∙ append_assoc set.history first.entries second.entries;
  by = by-append (Terminal link) first.entries second.entries first.by
      (subst (λ n. AreBy (Terminal n) second.entries) first.link_is second.by);
  heard_is = second.heard_is ∙ ap (λ n. n + messages_heard second.entries) first.heard_is
      ∙ add_assoc heard (messages_heard first.entries) (messages_heard second.entries)
      ∙ ap (λ n. heard + n) (sym (heard-append first.entries second.entries));
  grows = omega (arith, first.grows, second.grows);
  told = first.told ++ second.told;
  faults_are = second.faults_are ∙ ap (λ (fs : List SetFault). fs ++ second.told) first.faults_are
      ∙ append_assoc faults first.told second.told;
  told_is = told-append (entries_in set) (entries_in set'') first.told second.told
      (told_within (entries_in set) (entries_in set) (entries_in set') (entries_in set'') (omega arith) second.grows first.told first.told_is)
      (told_within (entries_in set') (entries_in set) (entries_in set'') (entries_in set'') first.grows (omega arith) second.told second.told_is);
  late_is = second.late_is ∙ first.late_is;
}
