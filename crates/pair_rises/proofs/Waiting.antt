-- A MISSED LINK SEEN AS AN AWAITED ONE (`waits`): so a link may come up at an end also in a life that the end missed. What a
-- link keeps as it's seen so it keeps as it's seen (`kept_seen`): a missed link is settled there, and says less.
use Rattle.std.proofs.Common.{refl, ◌≡◌, ◌∙◌, ap, sym, ℕ, ◌==◌, Bool, true, false, length, slice_get, Some, cond, ◌⊎◌, inl, inr}
use Rattle.set_model.specs.Sound.{IsSound}
use Rattle.set_model.specs.State.{LinkState, State, has_phase_settled}
use Rattle.set_model.proofs.Lists.{same_at}
use Rattle.set_veiled.specs.Veil.{dormant}
use Rattle.pair_model.specs.Promises.{IsGoing, IsKeptOn}
use Rattle.pair_model.specs.Run.{Past}
use Rattle.pair_rises.specs.Rises.{Cover, inside, awaited, missed, is_covered, closed, told_at, seen_under}
use Rattle.pair_rises.proofs.Keeping.{Turns, seen_cover}
use Rattle.pair_rises.proofs.Veils.{Fits, seen_off}

abbrev pub waits : Cover → Cover
waits inside = inside
waits awaited = awaited
waits missed = awaited

-- all of them
abbrev pub wait_all : (ℕ → Cover) → ℕ → Cover
wait_all told l = waits (told l)

pub waits_covered : (c : Cover) → is_covered (waits c) ≡ is_covered c
waits_covered inside = refl
waits_covered awaited = refl
waits_covered missed = refl

pub waits_so : (c : Cover) → is_covered c ≡ true → waits c ≡ awaited
waits_so inside e = absurd (let no : false ≡ true = e in cc)
waits_so awaited e = refl
waits_so missed e = refl

pub waits_turn : (c d : Cover) → Turns c d → Turns (waits c) (waits d)
waits_turn c d (inl same) = inl (ap waits same)
waits_turn c d (inr p) = inl (ap waits p.1 ∙ sym (ap waits p.0))

pub waits_told : (k : ℕ) (is : Cover) (told : ℕ → Cover) → waits is ≡ is → (l : ℕ) → wait_all (told_at k is told) l ≡ told_at k is (wait_all told) l
waits_told k is told e l = go (l == k)
  where
    go : (b : Bool) → waits (cond b is (told l)) ≡ cond b is (waits (told l))
    go true = e
    go false = refl

module _ (told : ℕ → Cover) (s : State) (sound : IsSound s) (fits : Fits told s) (l : ℕ) where
  abbrev seen : State
  seen = seen_under told s

  abbrev waiting : State
  waiting = seen_under (wait_all told) s

  fits_all : Fits (wait_all told) s
  fits_all n e = fits n (sym (waits_covered (told n)) ∙ e)

  -- it's the same link, or settled and counts nothing
  same_link : (c : Cover) → told l ≡ c → (link : LinkState) → slice_get seen.links l ≡ Some link
      → (slice_get waiting.links l ≡ Some link) ⊎ ((link ≡ closed s.settings) × (slice_get waiting.links l ≡ Some (dormant s.settings)))
  same_link inside e link there = inl (seen_off (wait_all told) s l (ap waits e) ∙ sym (seen_off told s l e) ∙ there)
  same_link awaited e link there = inl (seen_cover (wait_all told) s sound fits_all l awaited (dormant s.settings) (ap waits e) refl
      ∙ sym (seen_cover told s sound fits l awaited (dormant s.settings) e refl) ∙ there)
  same_link missed e link there = inr (
    same_at seen.links l (closed s.settings) link (seen_cover told s sound fits l missed (closed s.settings) e refl) there,
    seen_cover (wait_all told) s sound fits_all l awaited (dormant s.settings) (ap waits e) refl,
  )

  pub counted_seen : (n : ℕ) → ((link : LinkState) → slice_get waiting.links l ≡ Some link → link.accepted ≡ n)
      → (link : LinkState) → slice_get seen.links l ≡ Some link → link.accepted ≡ n
  counted_seen n counts link there = go (same_link (told l) refl link there)
    where
      go : (slice_get waiting.links l ≡ Some link) ⊎ ((link ≡ closed s.settings) × (slice_get waiting.links l ≡ Some (dormant s.settings))) → link.accepted ≡ n
      go (inl same) = counts link same
      go (inr p) = ap (λ (x : LinkState). x.accepted) p.0 ∙ counts (dormant s.settings) p.1

  pub going_seen : (P : LinkState → Type 0) → ((link : LinkState) → slice_get waiting.links l ≡ Some link → has_phase_settled link.phase ≡ false → P link)
      → (link : LinkState) → slice_get seen.links l ≡ Some link → has_phase_settled link.phase ≡ false → P link
  going_seen P goes link there unsettled = go (same_link (told l) refl link there)
    where
      go : (slice_get waiting.links l ≡ Some link) ⊎ ((link ≡ closed s.settings) × (slice_get waiting.links l ≡ Some (dormant s.settings))) → P link
      go (inl same) = goes link same unsettled
      go (inr p) = absurd (let no : true ≡ false = sym (ap (λ (x : LinkState). has_phase_settled x.phase) p.0) ∙ unsettled in cc)

pub kept_seen : (ox oy : ℕ → Cover) (s t : State) → IsSound s → IsSound t → Fits ox s → Fits oy t → (link : ℕ) (near far : Past)
    → IsKeptOn link near far (seen_under (wait_all ox) s) (seen_under (wait_all oy) t) → IsKeptOn link near far (seen_under ox s) (seen_under oy t)
kept_seen ox oy s t sound sound_t fits fits_t link near far k = record {
  prefix = k.prefix;
  accepted = counted_seen oy t sound_t fits_t link (length (far.taken link)) k.accepted;
  going = going_seen ox s sound fits link (λ state. IsGoing link state s.rows (near.sent link) (far.taken link)) k.going;
}
