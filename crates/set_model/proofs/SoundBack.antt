-- WHAT HOLDS OF EVERY STATE is kept when a link comes up (`risen_sound`) and opens (`opens_sound`), when it is left (`leaves`), and when its
-- messages leave it (`moves_off_sound`), and by a changeback (`declares`, `releases`). But for the declaration, which
-- is a new row, rows move while links or streams change and none comes to stand back: `moved_sound` says once what that
-- asks of each stream's place, of the homes of codes and of each link. Where streams run then is set_route's Alone.antt
-- and Places.antt; rows are Rows.antt's and Events.antt's. No induction. Soundness.antt uses it; `none_back`,
-- `open_not_held` and `shut_not_waiting` serve pair_changeover's Leaving.antt too.
use Rattle.std.proofs.lemmas.Bool.Decides.{nat_tests}
use Rattle.std.proofs.Common.{length, refl, arith, ◌≡◌, ◌∙◌, ap, sym, ◌<◌, ◌≤◌, ◌+◌, ◌-◌, ℕ, zero, suc, ◌==◌, true, false, List, [], map, slice_get, slice_set, subst, Option, None, Some, IfSome, Bool, not}
use Rattle.std.proofs.lemmas.Bool.{and_parts, cond_both}
use Rattle.std.proofs.lemmas.Option.{same_Some}
use Rattle.std.proofs.lemmas.List.{length-set}
use Rattle.set_route.specs.Routing.{settled, IsRouting, Routing, answered, asked, asked_again, code_again, code_answered, code_for, code_left, code_of, code_settled, given_back, home_of, place_settled, owed_under, place_back, place_of, raised, still_owed, via_of, via_settled}
use Rattle.set_model.specs.Changeover.{acknowledged_code, can_declare, comes_home, declared, fate_on, left_by, left_link, moved_over, out_of_service, overdue_via, redeclared_from, redeclared_if, redeclared_on, released, settled_link}
use Rattle.set_model.specs.Rows.{Fate, Waiting, Row, all_with, back, fated, is_back, is_back_to, is_held, is_on, is_parked, is_waiting, moved, numbers, on, parked, standing, stands_back, stream_of}
use Rattle.set_model.specs.Sound.{AreBack, IsAscending, IsBackOf, IsPlaced, IsSound, IsSoundCode, IsSoundLink}
use Rattle.set_model.specs.State.{Asked, Code, Free, Spent, Place, On, Changing, Nowhere, Down, Settled, Up, LinkState, State, all_finished, carries, carries_in, given, open_link, opens_in, fate_at, has_phase_settled, has_phase_up, is_open, late_at, link_is_open, target}
use Rattle.set_model.specs.Step.{opened, opened_link, risen, risen_link}
use Rattle.set_route.proofs.Alone.{alone}
use Rattle.set_route.proofs.Codes.{codes_at, freed_at, set_at}
use Rattle.set_route.proofs.Places.{again_at, again_sound, answered_at, answered_sound, raised_sound, settled_at, settled_sound, left_sound, asked_sound, back_sound}
use Rattle.set_model.proofs.Order.{ascends_filter, backs_of, before_none, coded_at, gone_none, none_standing, stood}
use Rattle.set_model.proofs.Events.{left, unparked, untouched}
use Rattle.set_model.proofs.Lists.{get_set_same, get_set_other, within, each_set, target_open, target_off, none_open}
use Rattle.set_model.proofs.Rows.{each_filter, moved_off, moved_length, moved_numbered, numbered_on, moved_fit, moved_marked, moved_same, moved_more, moved_nothing, fated_none}
use Rattle.set_model.proofs.Places.{false_true, apart_back, on_other, not_on_waiting, back_not_on, back_not_parked, code_back, home_back}
use Rattle.set_model.proofs.Staying.{not_sent, offered_out}
use Rattle.set_model.proofs.Walk.{IsAt}
use Rattle.set_model.proofs.SoundLink.{code_closed, code_kept, link_moved, links_set, carried_open, open_up, open_after, open_before, placed_set, shut_of, Follows, appended_sound}
use Rattle.set_model.proofs.Settling.{settled_empty}

-- ROWS THAT MOVE, as links and streams change, where none of them comes to stand back.
moved_sound : (s : State) (links : List LinkState) (routing : Routing) (test : Fate → Bool) (fate : Row → Fate)
    → IsSound s → length links ≡ length s.links → IsRouting routing → routing.links ≡ s.routing.links
    → back (map (fated fate) (standing test s.rows)) ≡ []
    → ((k : ℕ) → k < 16 → Follows links test (place_of k s.routing) (place_of k routing))
    → ((code : ℕ) → IsSoundCode links (given s) code (code_of code routing))
    → ((k : ℕ) (other : LinkState) → slice_get links k ≡ Some other → open_link other ≡ true
    → parked (moved test fate s.rows) ≡ [])
    → ((k : ℕ) (other : LinkState) → slice_get links k ≡ Some other
    → IsSoundLink s.settings k other (moved test fate s.rows))
    → IsSound (record s { links = links; routing = routing; rows = moved test fate s.rows })
moved_sound s links routing test fate t long sound same gone follows codes aside each =
    let kept = each_filter (λ row. IsBackOf s.routing row row.fate) (λ row. IsBackOf routing row row.fate)
    (λ row. not (test row.fate)) (λ x. stood test s.routing routing (λ k few. (follows k few).stays) x x.fate)
    (back s.rows) (each_filter (λ row. IsBackOf s.routing row row.fate) (λ row. IsBackOf s.routing row row.fate)
    (λ row. stands_back row.fate) (λ x e b. b) s.rows t.backs) in
    let backs : AreBack routing (moved test fate s.rows) = backs_of routing (moved test fate s.rows) (rw (moved_off test stands_back fate s.rows gone) kept) in
    let order : IsAscending (numbers (back (moved test fate s.rows))) =
    rw (moved_off test stands_back fate s.rows gone)
    (ascends_filter (λ (row : Row). not (test row.fate)) (back s.rows) t.back_order) in
    let placed = λ (k : ℕ) (few : k < 16). (follows k few).placed in
    let runs = λ (n : ℕ) (link : LinkState) (there : slice_get links n ≡ Some link)
    (o : open_link link ≡ true) (k : ℕ) (few : k < 16). (follows k few).runs n link there o in
    let numbered = numbered_on (all_finished s.finished) s.rows (moved test fate s.rows) (moved_length test fate s.rows)
    (moved_numbered test fate (given s) s.rows t.numbered) in
    let coded = λ (code : ℕ). code_kept links links (given s) (all_finished s.finished + length (moved test fate s.rows)) code (code_of code routing)
    (λ e. e) (λ via p. p) (omega (arith, moved_length test fate s.rows)) (codes code) in
    search (numbered, moved_fit, moved_marked, coded)

-- A LINK COMES UP, and nothing else changes.
pub risen_sound : (n : ℕ) (link : LinkState) (s : State) → IsAt n link Settled s → IsSound s → IsSound (risen n s)
risen_sound n link s at t =
    let new = risen_link s.settings.profile s.settings.method (late_at n s) in
    let e = settled_empty s n link t at.there at.phase_is in
    let none : on n s.rows ≡ [] = (t.links n link at.there).settled (ap has_phase_settled at.phase_is) in
    let one : IsSoundLink s.settings n new s.rows = grind (arith, before_none, none) in
    -- it carried nothing, and wasn't open
    let idle : carries link ≡ true → carries new ≡ true = λ c. grind (arith, at.phase_is) in
    let shut : open_link link ≡ true → open_link new ≡ true = λ o. false_true (has_phase_up link.phase) (ap has_phase_up at.phase_is) (open_up link o) in
    record {
      managed = t.managed;
      routing = t.routing;
      routed = t.routed;
      count = length-set s.links n new ∙ t.count;
      numbered = t.numbered;
      fit = t.fit;
      marked = t.marked;
      links = links_set s.settings s.links n new s.rows s.rows one (λ k d. untouched k s.rows s.rows refl) t.links;
      placed = λ stream low. placed_set s.links n link new (place_of stream s.routing) at.there idle (t.placed stream low);
      none_aside = open_before s.links n link new at.there (λ o. absurd cc) t.none_aside;
      all_run = open_before s.links n link new at.there (λ o. absurd cc) t.all_run;
      codes = λ code. code_kept s.links (slice_set s.links n new) (given s) (given s) code (code_of code s.routing)
          (open_after s.links n link new at.there shut (home_of code)) (λ via. placed_set s.links n link new (On via) at.there idle) (omega arith) (t.codes code);
      backs = t.backs;
      back_order = t.back_order;
    }

-- IT OPENS: streams come, and what was parked.
pub opens_sound : (n : ℕ) (link : LinkState) (s : State) → IsAt n link Up s → open_link link ≡ false → IsSound s → IsSound (opened n link s)
opens_sound n link s at shut t =
    let new = opened_link link in
    let u = unparked n s.rows in
    let l = t.links n link at.there in
    let up : has_phase_up new.phase ≡ true = ap has_phase_up at.phase_is in
    let whole : carries new ≡ true = ap (carries_in true) at.phase_is in
    let o : open_link new ≡ true = ap (opens_in true) at.phase_is in
    let before : IsSoundLink s.settings n new s.rows =
    record {
      profile = l.profile;
      window = l.window;
      counted = l.counted;
      method = l.method;
      in_order = l.in_order;
      held_last = l.held_last;
      none_held = l.none_held;
      no_users = λ e shut. false_true (open_link new) shut o;
      in_range = l.in_range;
      settled = l.settled;
    } in
    let one = link_moved s.settings n new is_parked (all_with (Waiting n)) s.routing s.rows t.backs (λ f e. grind arith) (λ x. refl)
    (λ _ x. refl) (λ shut x e b. false_true (open_link new) shut o) (λ c x e b. false_true (carries new) c whole) before in
    moved_sound s _ (raised n s.routing) is_parked (all_with (Waiting n)) t (length-set s.links n new)
    (raised_sound n s.routing (omega (arith, within s.links n link at.there, t.count, t.routed)) t.routing) refl
    (fated_none stands_back (all_with (Waiting n)) (λ x. refl) (standing is_parked s.rows))
    (λ k few. let a = (alone s.routing k t.routing few).raised_place n in let stays =
    placed_set s.links n link new (place_of k s.routing) at.there (λ e. whole) (t.placed k few)
    in record {
      placed = rw a (grind (arith, stays, whole, get_set_same s.links n new (within s.links n link at.there)));
      runs = λ j other there o. rw a (grind arith);
      stays = λ code via of e. grind (arith, a);
    })
    (λ code. code_kept s.links (slice_set s.links n new) (given s) (given s) code (code_of code s.routing)
    (open_after s.links n link new at.there (λ _. o) (home_of code)) (λ via. placed_set s.links n link new (On via) at.there (λ e. whole)) (omega arith) (t.codes code))
    (λ k other there o. u.parked_none) (links_set s.settings s.links n new s.rows (moved is_parked (all_with (Waiting n)) s.rows) one u.others t.links)

-- A LINK IS LEFT BY ITS MESSAGES.
module _ (told : Bool) (n : ℕ) (link : LinkState) (s : State) (at : IsAt n link Down s) (t : IsSound s) where
  abbrev Stands : ℕ → Type 0
  Stands via = IsPlaced (slice_set s.links n (settled_link told link)) (On via)

  -- another link is where it was, and the target is open
  other_stands : (via : ℕ) → (via == n) ≡ false → IsPlaced s.links (On via) → Stands via
  other_stands via d p = (p.0, get_set_other s.links n via (settled_link told link) (λ same. grind (arith, nat_tests, same, d)) ∙ p.1, p.2)

  target_stands : (to : ℕ) → target s.links ≡ Some to → Stands to
  target_stands to e =
      let u = target_open s.links to e in
      let up = open_up u.0 u.2 in
      other_stands to (grind (arith, nat_tests, u, at.there, at.phase_is, up)) (u.0, u.1, carried_open u.0 u.2)

  settles_via : (via : ℕ) → IsPlaced s.links (On via) → (to : Option ℕ) → target s.links ≡ to → (target s.links ≡ None → ⊥)
      → Stands (via_settled n to via)
  settles_via via p None e away = absurd (away e)
  settles_via via p (Some to) e away = cond_both (via == n) to via Stands (λ same. target_stands to e) (λ d. other_stands via d p)

  -- an open code has a home that is open, so there is a target: it stands where its streams come from then
  settles_code : (open_link link ≡ true → open_link (settled_link told link) ≡ true) → (code : ℕ) (was : Code)
      → IsSoundCode s.links (given s) code was
      → IsSoundCode (slice_set s.links n (settled_link told link)) (given s) code (code_settled n (target s.links) was)
  settles_code stays code Free c = code_closed _ _ code _ refl c.few
  settles_code stays code (Spent owed) c = code_closed _ _ code _ refl c.few
  settles_code stays code (Asked via declaration owed) c =
      let o = c.home_open via refl in
      let stood = c.via_stands via refl in
      let away : target s.links ≡ None → ⊥ = λ none. grind (arith, nat_tests, none_open, o) in
      record {
        home_open = λ v e. open_after s.links n link (settled_link told link) at.there stays (home_of code) o;
        via_stands = λ v e. subst Stands (same_Some _ v e) (settles_via via stood (target s.links) refl away);
        few = c.few;
      }

  -- a stream's place, where the link that it ran on settles
  settles_place : (place : Place) → IsPlaced s.links place → ((home code via : ℕ) → place ≡ Changing home code via → target s.links ≡ None → ⊥)
      → IsPlaced (slice_set s.links n (settled_link told link)) (place_settled n (target s.links) place)
  settles_place Nowhere p away = tt
  settles_place (On via) p away = one (target s.links) refl
    where
      one : (to : Option ℕ) → target s.links ≡ to → IsPlaced (slice_set s.links n (settled_link told link)) (place_settled n to (On via))
      one None e = cond_both (via == n) Nowhere (On via) (IsPlaced (slice_set s.links n (settled_link told link))) (λ same. tt) (λ d. other_stands via d p)
      one (Some to) e = cond_both (via == n) (On to) (On via) (IsPlaced (slice_set s.links n (settled_link told link))) (λ same. target_stands to e) (λ d. other_stands via d p)
  settles_place (Changing home code via) p away = settles_via via p (target s.links) refl (away home code via refl)

  pub moves_off_sound : IsSound (moved_over told n link s)
  moves_off_sound =
      -- it is empty, since the target is another link
      let l = t.links n link at.there in
      let is_shut : open_link link ≡ false = ap (opens_in link.tested) at.phase_is in
      let m = left n (fate_on (target s.links)) s.rows (target_off s.links n (ap link_is_open at.there ∙ is_shut)) (grind arith) in
      let stays : open_link link ≡ true → open_link (settled_link told link) ≡ true = λ o. false_true (open_link link) is_shut o in
      let below : IfSome (target s.links) (λ r. r < s.routing.links) = grind (arith, target_open, within) in
      moved_sound s _ (settled n (target s.links) s.routing) (is_on n) (all_with (fate_on (target s.links))) t
      (length-set s.links n (settled_link told link)) (settled_sound n (target s.links) s.routing below t.routing)
      refl (fated_none stands_back (all_with (fate_on (target s.links))) (λ x. grind arith)
      (standing (is_on n) s.rows))
      -- a link that is open was so before, so there is a target; and a stream on its way back has a home that is open
      (λ k few. let a = (alone s.routing k t.routing few).settled_place n (target s.links) in let stood =
      t.placed k few in let away : (home code via : ℕ) → place_of k s.routing ≡ Changing home code via
      → (target s.links) ≡ None → ⊥ =
      λ home code via e none. let coded = coded_at s.routing k t.routing home code via e in
      let o = (t.codes code).home_open via coded.1 in grind (arith, nat_tests, none_open, o) in record {
        placed = rw a (settles_place (place_of k s.routing) stood away);
        runs = open_before s.links n link (settled_link told link) at.there (λ o. absurd cc)
            (λ j old here o. let runs = t.all_run j old here o k few in rw a (grind (arith, none_open, runs)));
        stays = λ code via out was. grind (arith, a);
      })
      (λ code. rw (settled_at n (target s.links) s.routing.codes code) (settles_code stays code (code_of code s.routing) (t.codes code)))
      (open_before s.links n link (settled_link told link) at.there (λ o. absurd cc)
      (λ k old here o. moved_same (is_on n) is_parked (all_with (fate_on (target s.links))) s.rows
      (λ x. grind (arith, none_open)) (λ f e. grind arith) ∙ t.none_aside k old here o))
      (each_set (λ k other. IsSoundLink s.settings k other
      (moved (is_on n) (all_with (fate_on (target s.links))) s.rows)) s.links n (settled_link told link)
      (grind arith) (λ k other d here. let out =
      λ (is_down : open_link other ≡ false). target_off s.links k (ap link_is_open here ∙ is_down)
      in link_moved s.settings k other (is_on n) (all_with (fate_on (target s.links))) s.routing s.rows t.backs
      (on_other k n (apart_back n k d))
      (λ x. not_sent k (target s.links)) (λ u x. grind arith)
      (λ f x e b. not_on_waiting k (fate_on (target s.links)) (out f)) (λ c x f b. out (shut_of other c))
      (t.links k other here)))

-- where a message goes whose stream runs on a link: to wait for it if it's open, else to be held for it
pub open_not_held : (s : State) (k : ℕ) → is_open k s ≡ true → (p : Place) → is_held k (fate_at p s) ≡ false
open_not_held s k o p = grind arith

pub shut_not_waiting : (s : State) (k : ℕ) → is_open k s ≡ false → (p : Place) → is_waiting k (fate_at p s) ≡ false
shut_not_waiting s k shut p = grind arith

-- A LINK IS LEFT, and what stood back for it turns back.
module _ (blind : Bool) (n : ℕ) (link : LinkState) (s : State) (at : IsAt n link Up s) (t : IsSound s) where
  abbrev mid : State
  mid = out_of_service blind n link s

  abbrev fate : Row → Fate
  fate row = fate_at (place_of (stream_of row.body) mid.routing) mid

  -- its stream runs on the link that it came from
  pub goes : (x : Row) → is_back_to n x.fate ≡ true → IsBackOf s.routing x x.fate → (via : ℕ)
      × (place_of (stream_of x.body) mid.routing ≡ On via) × IsPlaced mid.links (On via)
  goes x e b =
      let placed = λ (via : ℕ). placed_set s.links n link (left_link blind (given s) link) (On via) at.there (λ e. refl) in
      let left = alone s.routing (stream_of x.body) t.routing in
      grind (arith, placed, left, t.placed)

  gone : (other : Fate → Bool) → ((via : ℕ) → IsPlaced mid.links (On via) → other (fate_at (On via) mid) ≡ false)
      → standing other (map (fated fate) (standing (is_back_to n) s.rows)) ≡ []
  gone other h = gone_none (is_back_to n) fate (λ row. IsBackOf s.routing row row.fate) other
      (λ x e b. let g = goes x e b in ap (λ (p : Place). other (fate_at p mid)) g.1 ∙ h g.0 g.2) s.rows t.backs

  -- a code whose home is left is spent
  leaves_code : (code : ℕ) (was : Code) → IsSoundCode s.links (given s) code was → IsSoundCode mid.links (given s) code (code_left n code was)
  leaves_code code Free c = code_closed _ _ code _ refl c.few
  leaves_code code (Spent owed) c = code_closed _ _ code _ refl c.few
  leaves_code code (Asked via declaration owed) c = cond_both (home_of code == n) (Spent owed) (Asked via declaration owed)
      (λ (was : Code). IsSoundCode mid.links (given s) code was)
      (λ e. code_closed _ _ code _ refl c.few)
      (λ e. code_kept s.links mid.links (given s) (given s) code (Asked via declaration owed)
      (λ o. grind (arith, nat_tests, get_set_other, o, e)) (λ v. placed_set s.links n link (left_link blind (given s) link) (On v) at.there (λ e. refl)) (omega arith) c)

  pub leaves : IsSound (left_by blind n link s)
  leaves =
      let mid_links = links_set s.settings s.links n (left_link blind (given s) link) s.rows s.rows
      (let l = t.links n link at.there in grind arith) (λ k d. untouched k s.rows s.rows refl) t.links in
      let sound = left_sound n s.routing t.routing in
      moved_sound s mid.links mid.routing (is_back_to n) fate t (length-set s.links n (left_link blind (given s) link)) sound refl
      (gone stands_back (λ via p. grind arith))
      (λ k few. let stays = placed_set s.links n link (left_link blind (given s) link) (place_of k s.routing) at.there (λ e. refl)
      (t.placed k few) in let a = (alone s.routing k t.routing few).left_place n in
      let runs = open_before s.links n link (left_link blind (given s) link) at.there (λ e. absurd cc)
      (λ j old here o. t.all_run j old here o k few) in grind (arith, stays, a, runs))
      (λ code. rw (codes_at n 0 code code s.routing.codes (omega arith)) (leaves_code code (code_of code s.routing) (t.codes code)))
      (open_before s.links n link (left_link blind (given s) link) at.there (λ e. absurd cc)
      (λ k old here o. grind (arith, nat_tests, moved_more, gone, t.none_aside k old here o)))
      (λ k other there. link_moved s.settings k other (is_back_to n) fate s.routing s.rows t.backs
      (λ f e. back_not_on k f (home_back n f e)) (λ x. offered_out k _ mid)
      (λ u x. open_not_held mid k (ap link_is_open there ∙ u) _)
      (λ d x e b. shut_not_waiting mid k (ap link_is_open there ∙ d) _)
      (λ c x f b. grind (arith, nat_tests, goes x f b)) (mid_links k other there))

-- A DECLARATION.
-- the link that it goes out on is open
pub alternative_open : (home alternative : ℕ) (s : State) → can_declare home alternative s ≡ true → is_open alternative s ≡ true
alternative_open home alternative s may = (and_parts (is_open alternative s) _ (and_parts (not (alternative == home)) _ may).1).0

pub declares : (home alternative : ℕ) (s : State) → is_open home s ≡ true → can_declare home alternative s ≡ true
    → IsSound s → IsSound (declared home alternative s)
declares home alternative s o may t =
    let runs = asked home alternative (given s) s.routing in
    let out = alternative_open home alternative s may in
    let carried : (k : ℕ) (link : LinkState) → slice_get s.links k ≡ Some link → open_link link ≡ true → carries link ≡ true = λ k link there o. carried_open link o in
    let below : (n : ℕ) → is_open n s ≡ true → n < s.routing.links = λ n e. grind (arith, within) in
    let free = (and_parts _ _ (and_parts (is_open alternative s) _ (and_parts (not (alternative == home)) _ may).1).1).0 in
    let sound = asked_sound home alternative (given s) s.routing (below home o) (below alternative out) free t.routing in
    appended_sound s runs t sound refl _ (Waiting alternative) (grind arith) (λ k link there. grind (arith, nat_tests, out, carried)) tt
    (λ k few. let p = t.placed k few in let a =
    (alone s.routing k t.routing few).asked_place home alternative (given s)
    in record {
      placed = rw a (grind (arith, p, out, carried));
      runs = λ n link at rising. let runs = t.all_run n link at rising k few in rw a (grind (arith, runs));
      stays = λ code via of e. grind (arith, nat_tests, a);
    })
    (λ code. rw (set_at s.routing.codes code (code_for home alternative) (Asked alternative (given s) 1) (omega (arith, below home o, below alternative out, t.routing.at_most_16, t.routing.all_codes)))
    (cond_both (code == code_for home alternative) (Asked alternative (given s) 1) (code_of code s.routing) (λ (was : Code). IsSoundCode s.links (given s + 1) code was)
    (λ e. let same : home_of code ≡ home = grind (arith, nat_tests, below alternative out, t.routing.at_most_16, e) in record {
      home_open = λ via is. rw same o;
      via_stands = λ via is. subst (λ (x : ℕ). IsPlaced s.links (On x)) (same_Some _ via is) (grind (arith, out, carried));
      few = omega arith;
    })
    (λ e. code_kept s.links s.links (given s) (given s + 1) code (code_of code s.routing) (λ u. u) (λ via q. q) (omega arith) (t.codes code))))

-- IT'S MADE ONCE MORE, on the link from which the streams come, which is open or was left.
pub overdue_open : (was : Code) (rows : List Row) (via : ℕ) → overdue_via was rows ≡ Some via → via_of was ≡ Some via
overdue_open Free rows via e = absurd cc
overdue_open (Spent owed) rows via e = absurd cc
overdue_open (Asked v declaration owed) rows via e = grind (arith, e)

pub redeclares : (code via : ℕ) (s : State) → overdue_via (code_of code s.routing) s.rows ≡ Some via → IsSound s → IsSound (redeclared_on code (Some via) s)
redeclares code via s due t =
    let stands = (t.codes code).via_stands via (overdue_open (code_of code s.routing) s.rows via due) in
    appended_sound s (asked_again code (given s) s.routing) t (again_sound code (given s) s.routing t.routing) refl _ (fate_at (On via) s) (grind arith)
    (λ k link there. grind (arith, nat_tests, stands)) (grind arith)
    (λ k few. record {
      placed = t.placed k few;
      runs = λ n link at rising. t.all_run n link at rising k few;
      stays = λ c v of e. (v, e);
    })
    (λ c. rw (again_at s.routing.codes c code (given s))
    (cond_both (c == code) (code_again (given s) (code_of c s.routing)) (code_of c s.routing) (λ (was : Code). IsSoundCode s.links (given s + 1) c was)
    (λ e. again_code c (code_of c s.routing) (t.codes c))
    (λ e. code_kept s.links s.links (given s) (given s + 1) c (code_of c s.routing) (λ u. u) (λ v q. q) (omega arith) (t.codes c))))
  where
    again_code : (c : ℕ) (was : Code) → IsSoundCode s.links (given s) c was → IsSoundCode s.links (given s + 1) c (code_again (given s) was)
    again_code c Free k = code_closed _ _ c _ refl (omega (arith, k.few))
    again_code c (Spent owed) k = code_closed _ _ c _ refl (omega (arith, k.few))
    again_code c (Asked v d owed) k = record { home_open = λ x e. k.home_open x e; via_stands = λ x e. k.via_stands x e; few = omega (arith, k.few) }

pub redeclared_sound : (code : ℕ) (o : Option ℕ) (s : State) → overdue_via (code_of code s.routing) s.rows ≡ o → IsSound s → IsSound (redeclared_on code o s)
redeclared_sound code None s e t = t
redeclared_sound code (Some via) s e t = redeclares code via s e t

pub all_redeclared : (code n : ℕ) (s : State) → IsSound s → IsSound (redeclared_from code n s)
all_redeclared code zero s t = t
all_redeclared code (suc n) s t =
    all_redeclared (suc code) n (redeclared_if code s) (redeclared_sound code (overdue_via (code_of code s.routing) s.rows) s refl t)

-- WHAT STOOD BACK WAITS FOR ITS HOME.
module _ (code : ℕ) (s : State) (t : IsSound s) where
  -- a stream on its way back by a code has a home that is open
  pub home_open : (stream : ℕ) (to c via : ℕ) → place_of stream s.routing ≡ Changing to c via → (home_of c ≡ to) × (is_open (home_of c) s ≡ true)
  home_open stream to c via e = let coded = coded_at s.routing stream t.routing to c via e in (coded.0, (t.codes c).home_open via coded.1)

  open_stands : (k : ℕ) → is_open k s ≡ true → IsPlaced s.links (On k)
  open_stands k o = go (slice_get s.links k) refl
    where
      go : (found : Option LinkState) → slice_get s.links k ≡ found → IsPlaced s.links (On k)
      go None e = false_true (is_open k s) (ap link_is_open e) o
      go (Some link) e = let is = sym (ap link_is_open e) ∙ o in (link, e, carried_open link is)

  -- its place once it's home
  home_place : (place : Place) → IsPlaced s.links place
      → ((to c via : ℕ) → place ≡ Changing to c via → (home_of c ≡ to) × (is_open (home_of c) s ≡ true))
      → IsPlaced s.links (place_back code place)
  home_place Nowhere p h = tt
  home_place (On l) p h = p
  home_place (Changing to c via) p h = cond_both (c == code) (On to) (Changing to c via) (IsPlaced s.links)
      (λ e. let at = h to c via refl in subst (λ (k : ℕ). IsPlaced s.links (On k)) at.0 (open_stands (home_of c) at.1)) (λ d. p)

  -- where its home isn't open nothing stands back by the code
  pub none_back : is_open (home_of code) s ≡ false → comes_home code s.rows ≡ s.rows
  none_back shut = moved_nothing (is_back code) (all_with (Waiting (home_of code))) s.rows
      (none_standing (λ row. IsBackOf s.routing row row.fate) (is_back code)
      (λ x e b. grind (arith, nat_tests, home_open)) s.rows t.backs)

  -- and none comes to a link that isn't open
  goes_home : (routing : Routing) → IsRouting routing → routing.links ≡ s.routing.links
      → ((k : ℕ) → k < 16 → place_of k routing ≡ place_back code (place_of k s.routing))
      → ((c : ℕ) → IsSoundCode s.links (given s) c (code_of c routing))
      → IsSound (record s { rows = comes_home code s.rows; routing = routing })
  goes_home routing sound same places codes =
      let carried : (k : ℕ) (link : LinkState) → slice_get s.links k ≡ Some link → open_link link ≡ true → carries link ≡ true = λ k link there o. carried_open link o in
      moved_sound s s.links routing (is_back code) (all_with (Waiting (home_of code))) t refl sound
      same (fated_none stands_back (all_with (Waiting (home_of code))) (λ x. refl) (standing (is_back code) s.rows))
      (λ k few. let a = places k few in record {
        placed = rw a (home_place (place_of k s.routing) (t.placed k few) (home_open k));
        runs = λ n link at o. let runs = t.all_run n link at o k few in rw a (grind (arith, runs));
        stays = λ c via of f. grind (arith, a);
      })
      codes
      (λ k other there o. moved_same (is_back code) is_parked (all_with (Waiting (home_of code))) s.rows (λ x. refl)
      (λ f e. back_not_parked f (code_back code f e)) ∙ t.none_aside k other there o)
      (λ k other there. link_moved s.settings k other (is_back code) (all_with (Waiting (home_of code))) s.routing
      s.rows t.backs (λ f e. back_not_on k f (code_back code f e)) (λ x. refl) (λ u x. refl)
      (λ d x e b. grind (arith, nat_tests, home_open))
      (λ d x e b. grind (arith, nat_tests, home_open, carried)) (t.links k other there))

  pub releases : IsSound (released code s)
  releases = goes_home (given_back code s.routing) (back_sound code s.routing t.routing) refl
      (λ k few. (alone s.routing k t.routing few).back_place code)
      (λ c. rw (freed_at s.routing.codes c code) (cond_both (c == code) Free (code_of c s.routing) (λ (was : Code). IsSoundCode s.links (given s) c was)
      (λ e. code_closed _ _ c Free refl (omega arith)) (λ e. t.codes c)))

  -- one acknowledgement less is owed
  pub acknowledges_back : IsSound (acknowledged_code code s)
  acknowledges_back = goes_home (answered code s.routing) (answered_sound code s.routing t.routing) refl
      (λ k few. (alone s.routing k t.routing few).answered_place code)
      (λ c. rw (answered_at s.routing.codes c code) (cond_both (c == code) (code_answered (code_of c s.routing)) (code_of c s.routing) (λ (was : Code). IsSoundCode s.links (given s) c was)
      (λ e. let few = (t.codes c).few in owed_code c (owed_under (code_of c s.routing) - 1) (omega (arith, few))) (λ e. t.codes c)))
    where
      owed_code : (c n : ℕ) → n ≤ given s → IsSoundCode s.links (given s) c (still_owed n)
      owed_code c zero few = code_closed _ _ c Free refl (omega arith)
      owed_code c (suc n) few = code_closed _ _ c (Spent (suc n)) refl few
