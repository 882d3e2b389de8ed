-- The entries of a history are read back, and one more entry's octets add that entry: by induction over the entries.
use Rattle.std.proofs.Common.{arith, refl, sym, ap, subst, zero, suc, ◌≡◌, ◌∙◌, ◌<◌, ◌≤◌, ◌+◌, ◌-◌, ℕ, List, [], ◌∷◌, ◌++◌, length}
use Rattle.std.proofs.lemmas.List.{length-append, append_assoc, append-nil}
use Rattle.set_events.specs.declared.history.Entry.{Entry}
use Rattle.set_history.specs.Told.{entry_told, behind_entry, entries_told, AreWritten}
use Rattle.set_history.specs.Written.{entry_text, history_text, IsKept, AreAllKept}
use Rattle.set_history.proofs.Parts.{entry_back, behind_entry_back}

pub length_told : (n : ℕ) (octets : List ℕ) → length (entries_told n octets) ≡ n
length_told zero octets = refl
length_told (suc n) octets = ap suc (length_told n (behind_entry octets))

-- the first entry of some, and the others
pub first_told : (n : ℕ) (octets : List ℕ) → 0 < n → entries_told n octets ≡ entry_told octets ∷ entries_told (n - 1) (behind_entry octets)
first_told zero octets h = absurd (omega (arith, h))
first_told (suc n) octets h = let e : suc n - 1 ≡ n = omega arith in rw e refl

-- THE LAW
history_back : (entries : List Entry) (rest : List ℕ) → AreAllKept entries → entries_told (length entries) (history_text entries ++ rest) ≡ entries
history_back [] rest h = refl
history_back (entry ∷ entries) rest h =
    ap (λ (xs : List ℕ). entries_told (suc (length entries)) xs) (append_assoc (entry_text entry) (history_text entries) rest)
    ∙ ap (λ (e : Entry). e ∷ entries_told (length entries) (behind_entry (entry_text entry ++ (history_text entries ++ rest)))) (entry_back entry (history_text entries ++ rest) h.0)
    ∙ ap (λ (xs : List ℕ). entry ∷ entries_told (length entries) xs) (behind_entry_back entry (history_text entries ++ rest) h.0)
    ∙ ap (λ (es : List Entry). entry ∷ es) (history_back entries rest h.1)

text_more : (entries : List Entry) (entry : Entry) → history_text (entries ++ entry ∷ []) ≡ history_text entries ++ entry_text entry
text_more [] entry = append-nil (entry_text entry)
text_more (first ∷ entries) entry =
    ap (λ (xs : List ℕ). entry_text first ++ xs) (text_more entries entry)
    ∙ sym (append_assoc (entry_text first) (history_text entries) (entry_text entry))

kept_more : (entries : List Entry) (entry : Entry) → AreAllKept entries → IsKept entry → AreAllKept (entries ++ entry ∷ [])
kept_more [] entry h k = (k, h)
kept_more (first ∷ entries) entry h k = (h.0, kept_more entries entry h.1 k)

-- an entry that is pushed stands last
module _ (n : ℕ) (octets : List ℕ) (entry : Entry) (written : AreWritten n octets) (kept : IsKept entry) where
  abbrev entries : List Entry
  entries = entries_told n octets

  text : octets ++ entry_text entry ≡ history_text (entries ++ entry ∷ [])
  text = ap (λ (xs : List ℕ). xs ++ entry_text entry) (sym written.0) ∙ sym (text_more entries entry)

  many : n + 1 ≡ length (entries ++ entry ∷ [])
  many = rw (length-append entries (entry ∷ []), length_told n octets) refl

  pub pushed : entries_told (n + 1) (octets ++ entry_text entry) ≡ entries ++ entry ∷ []
  pushed =
      ap (λ (xs : List ℕ). entries_told (n + 1) xs) (text ∙ sym (append-nil (history_text (entries ++ entry ∷ []))))
      ∙ ap (λ (k : ℕ). entries_told k (history_text (entries ++ entry ∷ []) ++ [])) many
      ∙ history_back (entries ++ entry ∷ []) [] (kept_more entries entry written.1 kept)

  pub pushed_written : AreWritten (n + 1) (octets ++ entry_text entry)
  pushed_written = (
    ap history_text pushed ∙ sym text,
    subst (λ (es : List Entry). AreAllKept es) (sym pushed) (kept_more entries entry written.1 kept),
  )

-- an entry has an octet at least
text_long : (entries : List Entry) → length entries ≤ length (history_text entries)
text_long [] = omega arith
text_long (entry ∷ entries) =
    let behind = text_long entries in
    rw (length-append (entry_text entry) (history_text entries)) (omega (arith, behind))

pub few_entries : (n : ℕ) (octets : List ℕ) → AreWritten n octets → n ≤ length octets
few_entries n octets h =
    let long = text_long (entries_told n octets) in
    let count = length_told n octets in
    let same = ap length h.0 in
    omega (arith, long, count, same)
