-- A LINK THAT COMES UP at both ends begins a world of the law (`rises_tied`): at each end its control and its window
-- are new (`fresh_begins`) and nothing was sent, since a settled link has no messages (`settled_empty`, set_model's
-- Settling.antt). `unborn` ties a link that isn't up at either end and has no past to a world that just began: a tie
-- asks nothing of the control of a settled link. No induction: such a world's run has no step. Moving.antt uses it for
-- Up, Kept.antt for new sets; `settled_at` serves pair_changeover's Arriving.antt too.
use Rattle.l2_units.specs.declared.profile.Profile.{Profile}
use Rattle.l2_units.specs.declared.profile.Profile.TheVariants.{Narrow}
use Rattle.l2_window.proofs.Numbers.{from_zero}
use Rattle.std.proofs.Common.{refl, ◌≡◌, ◌∙◌, ap, sym, subst, ℕ, true, false, [], List, slice_get, Option, Some, None}
use Rattle.l2_window.specs.Link.{End as LinkEnd, World as LinkWorld, Begins, begins}
use Rattle.set_events.specs.declared.config.Method.{Method}
use Rattle.set_events.specs.declared.event.Event.TheVariants.{Up as UpEvent}
use Rattle.set_model.specs.declared.phase.Phase.{Phase}
use Rattle.set_model.specs.declared.phase.Phase.TheVariants.{Up, Down, Settled}
use Rattle.set_model.specs.Control.{Control, start_of}
use Rattle.set_model.specs.Rows.{numbers, unack}
use Rattle.set_model.specs.Sound.{IsSound}
use Rattle.set_model.specs.State.{late_at, LinkState, State, has_phase_settled, is_settled, link_is_settled, window_of}
use Rattle.set_model.specs.Step.{with_known, opened_link, risen_link, rises, step}
use Rattle.set_model.proofs.Events.{unparked}
use Rattle.set_model.proofs.Lists.{get_set_same, set_twice, within, same_at}
use Rattle.set_model.proofs.Settling.{settled_empty}
use Rattle.set_model.proofs.Walk.{IsAt}
use Rattle.pair_model.proofs.Controls.{rules}
use Rattle.pair_model.proofs.Tied.{Counts, Side, IsGoing, Goes, Tied}

settled_phase : (phase : Phase) → has_phase_settled phase ≡ true → phase ≡ Settled
settled_phase Up e = absurd cc
settled_phase Down e = absurd cc
settled_phase Settled e = refl

pub settled_at : (l : ℕ) (s : State) → is_settled l s ≡ true → (link : LinkState) × IsAt l link Settled s
settled_at l s e = go (slice_get s.links l) refl
  where
    go : (o : Option LinkState) → slice_get s.links l ≡ o → (link : LinkState) × IsAt l link Settled s
    go None f = absurd (let no : false ≡ true = ap link_is_settled (sym f) ∙ e in cc)
    go (Some link) f = (link, record { there = f; phase_is = settled_phase link.phase (ap link_is_settled (sym f) ∙ e) })

module _ (l : ℕ) (q : Profile) (m : Method) (s : State) (sound : IsSound s) (profile_of : s.settings.profile ≡ q)
    (is_of : s.settings.method ≡ m) (link : LinkState) (at : IsAt l link Settled s) where
  step_is : step s (UpEvent l) ≡ rises l s Settled
  unfolding step
  step_is = ap (λ (o : Option LinkState). with_known o s (λ k. rises l s k.phase)) at.there ∙ ap (λ (p : Phase). rises l s p) at.phase_is

  abbrev risen : State
  risen = (rises l s Settled).state

  abbrev pub fresh : LinkEnd Control
  fresh = record { control = start_of m; window = window_of l (opened_link (risen_link q m (late_at l s))) risen.rows; sent = []; took = []; acked = 0 }

  abbrev new : LinkState
  new = opened_link (risen_link q m (late_at l s))

  risen_there : slice_get risen.links l ≡ Some new
  risen_there = rw (← profile_of, ← is_of)
      (ap (λ (ls : List LinkState). slice_get ls l) (set_twice s.links l (risen_link s.settings.profile s.settings.method (late_at l s)) _)
      ∙ get_set_same s.links l (opened_link (risen_link s.settings.profile s.settings.method (late_at l s))) (within s.links l link at.there))

  none_sent : unack l risen.rows ≡ []
  none_sent = (unparked l s.rows).unack_same ∙ (settled_empty s l link sound at.there at.phase_is).unack_none

  pub fresh_begins : Begins rules q (start_of m) fresh
  fresh_begins = record { control = refl; profile_is = refl; last = sym (from_zero q); unacked = ap numbers none_sent; sent = refl; took = refl; acked = refl }

  pub fresh_goes : Goes l fresh (step s (UpEvent l)).state
  fresh_goes = rw step_is (λ other found unsettled.
      let same : new ≡ other = sym (same_at risen.links l new other risen_there found) in
      subst (λ (k : LinkState). IsGoing l fresh k risen.rows) same (record { control = refl; window = refl; acked = refl }))

  pub fresh_counts : Counts l (step s (UpEvent l)).state []
  fresh_counts = rw step_is (λ other found. ap (λ (k : LinkState). k.accepted) (same_at risen.links l new other risen_there found))

-- both ends then, with empty lines
abbrev pub new_side : State → Side
new_side s = record { state = s; sent = []; taken = [] }

pub rises_tied : (q : Profile) (l : ℕ) (mx my : Method) (x y : State) (near far : LinkEnd Control)
    → Begins rules q (start_of mx) near → Begins rules q (start_of my) far → near.sent ≡ [] → near.took ≡ []
    → far.sent ≡ [] → far.took ≡ [] → Goes l near x → Goes l far y → Counts l x [] → Counts l y []
    → Tied l mx my (new_side x) (new_side y) [] []
rises_tied q l mx my x y near far a b ns nt fs ft goes far_goes counts far_counts =
    let w : LinkWorld Control = record { near = near; far = far; out = []; back = [] } in
    record {
      profile = q;
      world = w;
      run = begins w a b refl refl;
      ties = record {
        near = record { sent_is = ns; stand = tt; took_is = rw nt tt };
        far = record { sent_is = fs; stand = tt; took_is = rw ft tt };
        near_goes = goes;
        far_goes = far_goes;
        near_counts = counts;
        far_counts = far_counts;
        out = tt;
        back = tt;
      };
    }

-- a link that isn't up at either end, and has no past
pub unborn : (l : ℕ) (mx my : Method) (x y : State)
    → ((link : LinkState) → slice_get x.links l ≡ Some link → has_phase_settled link.phase ≡ true)
    → ((link : LinkState) → slice_get y.links l ≡ Some link → has_phase_settled link.phase ≡ true) → Counts l x []
    → Counts l y [] → Tied l mx my (new_side x) (new_side y) [] []
unborn l mx my x y a b counts far_counts =
    let end : (m : Method) → LinkEnd Control =
    λ m. record {
      control = start_of m;
      window = record { profile = Narrow; last = 127; unacked = []; unsent = []; room = 0 };
      sent = [];
      took = [];
      acked = 0;
    } in
    let start : (m : Method) → Begins rules Narrow (start_of m) (end m) =
    λ m. record {
      control = refl;
      profile_is = refl;
      last = refl;
      unacked = refl;
      sent = refl;
      took = refl;
      acked = refl;
    } in
    rises_tied Narrow l mx my x y (end mx) (end my) (start mx) (start my) refl refl refl refl
    (λ link found unsettled. absurd (let no : true ≡ false = sym (a link found) ∙ unsettled in cc))
    (λ link found unsettled. absurd (let no : true ≡ false = sym (b link found) ∙ unsettled in cc)) counts
    far_counts
