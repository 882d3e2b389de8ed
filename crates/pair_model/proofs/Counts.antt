-- HOW MANY BODIES A LINK COUNTS AS ACCEPTED: only its own hearing and coming up change that (`count_stays`), and what
-- becomes of an accepted body doesn't (`takes_count`). It's a walk of small changes (`step_walks`, set_model's
-- Walk.antt): each leaves the list of links alone, or sets a link to one that counts as many (`set_links`); of hearing
-- and coming up the link is another (`IsApart`). Tied.antt and Pairs.antt keep by it that the count is that of the
-- bodies taken; used by Hearing.antt and Moving.antt too.
use Rattle.std.proofs.Common.{refl, ◌≡◌, ◌≢◌, ◌∙◌, ap, subst, ℕ, ◌==◌, false, List, slice_get, slice_set, Option, Some, ◌⊎◌, inl, inr}
use Rattle.set_events.specs.declared.event.Event.{Event}
use Rattle.set_events.specs.declared.event.Event.TheVariants.{Heard, Up as UpEvent}
use Rattle.set_model.specs.Step.{next, step, takes}
use Rattle.set_model.specs.State.{LinkState, State}
use Rattle.set_model.proofs.Lists.{at_set}
use Rattle.set_model.proofs.Places.{false_true, itself}
use Rattle.set_model.proofs.Walk.{KeptBy, step_walks, takes_walks}

-- the link was there, and counts as many
abbrev pub LinksCount : ℕ → List LinkState → List LinkState → Type 0
LinksCount l links new =
    (after : LinkState) → slice_get new l ≡ Some after
    → (link : LinkState) × (slice_get links l ≡ Some link) × (after.accepted ≡ link.accepted)

abbrev pub CountStays : ℕ → State → State → Type 0
CountStays l s t = LinksCount l s.links t.links

same_links : (l : ℕ) (links : List LinkState) → LinksCount l links links
same_links l links = λ after there. (after, there, refl)

stays_then : (l : ℕ) (a b c : List LinkState) → LinksCount l a b → LinksCount l b c → LinksCount l a c
stays_then l a b c p q = λ after there.
    let y = q after there in
    let x = p y.0 y.1 in
    (x.0, x.1, y.2 ∙ x.2)

-- a link changes, and counts as many
set_links : (l m : ℕ) (link link' : LinkState) (links : List LinkState) → slice_get links m ≡ Some link
    → link'.accepted ≡ link.accepted → LinksCount l links (slice_set links m link')
set_links l m link link' links there same = λ after found. go after (at_set links m l link' after found)
  where
    go : (after : LinkState) → ((l ≡ m) × (after ≡ link')) ⊎ ((l ≢ m) × (slice_get links l ≡ Some after))
        → (k : LinkState) × (slice_get links l ≡ Some k) × (after.accepted ≡ k.accepted)
    go after (inl p) = (link, ap (λ (k : ℕ). slice_get links k) p.0 ∙ there, ap (λ (k : LinkState). k.accepted) p.1 ∙ same)
    go after (inr p) = (after, p.1, refl)

small : (Known : ℕ → Type 0) (May : Type 0) (l : ℕ) → KeptBy Known May (CountStays l)
small Known May l = record {
  same = λ s. same_links l s.links;
  after = λ a b c p q. stays_then l a.links b.links c.links p q;
  delivers = λ body s. same_links l s.links;
  queues = λ order s. same_links l s.links;
  leaves = λ blind m link s known at. set_links l m link _ s.links at.there refl;
  acknowledges = λ count m link s known at few g. set_links l m link _ s.links at.there refl;
  gives_up = λ sent cause m link s known at g. same_links l s.links;
  gives_up_orders = λ cause m link s known at g. same_links l s.links;
  takes_back = λ order from s unsent known g. same_links l s.links;
  moves_off = λ told m link s known at. set_links l m link _ s.links at.there refl;
  answers = λ m link s known at. set_links l m link _ s.links at.there refl;
  withdraws = λ count m link s known at g. same_links l s.links;
  declares = λ may home alternative s up can. same_links l s.links;
  redeclares = λ code via s due. same_links l s.links;
  acknowledges_back = λ code s known. same_links l s.links;
  releases = λ code s known. same_links l s.links;
  opens = λ m link s known at shut u. set_links l m link _ s.links at.there refl;
}

-- what becomes of an accepted body changes no count
pub takes_count : (l : ℕ) (body : Option (List ℕ)) (s : State) → CountStays l s (takes body s).state
takes_count l body s = takes_walks (λ m. Unit {0}) ⊥ (CountStays l) (small (λ m. Unit {0}) ⊥ l) body s (λ b e o f n g. tt)

-- an event that isn't the link's own hearing or coming up
abbrev pub IsApart : ℕ → Event → Type 0
IsApart l (Heard m unit) = (m == l) ≡ false
IsApart l (UpEvent m) = (m == l) ≡ false
IsApart l _ = Unit {0}

pub count_stays : (l : ℕ) (s : State) (event : Event) → IsApart l event → CountStays l s (step s event).state
count_stays l s event apart = step_walks s (CountStays l) (CountStays l s) event (record {
  small = small _ _ l;
  unmoved = same_links l s.links;
  rests = λ t u p q. stays_then l s.links t.links u.links p q;
  offers = λ body e none. same_links l s.links;
  takes = λ body rest e there. same_links l s.links;
  sends = λ m link t e same at g. stays_then l s.links t.links (next m t link).state.links same (set_links l m link _ t.links at.there refl);
  hears = λ m unit link e fits at g. other m (subst (IsApart l) e apart) _;
  rises = λ m link e at. other m (subst (IsApart l) e apart) _;
})
  where
    other : (m : ℕ) → (m == l) ≡ false → (link' : LinkState) (after : LinkState)
        → slice_get (slice_set s.links m link') l ≡ Some after → (k : LinkState) × (slice_get s.links l ≡ Some k)
        × (after.accepted ≡ k.accepted)
    other m d link' after found = go (at_set s.links m l link' after found)
      where
        go : ((l ≡ m) × (after ≡ link')) ⊎ ((l ≢ m) × (slice_get s.links l ≡ Some after)) → (k : LinkState)
            × (slice_get s.links l ≡ Some k) × (after.accepted ≡ k.accepted)
        go (inl p) = absurd (false_true (m == l) d (rw (p.0) (itself m)))
        go (inr p) = (after, p.1, refl)
