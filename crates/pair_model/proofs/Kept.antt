-- WHAT THE TIE OF A LINK SAYS of what passed on it, and that it holds at first. `kept_tied`, and `kept_on` of two ends:
-- the bodies that were accepted are the first that were sent, the far end counts just those, and until it settles what
-- is unacknowledged is the rest. The law says so of numbers (`one_link`, Controls.antt), and the rows have one body for
-- each (`first_bodies`, `same_messages`, by induction on the lists). `at_first` ties each link of two new sets as one
-- that was never up (`unborn`, Rising.antt). Used by Runs.antt, and by pair_changeover's Hearing.antt, Ordered.antt and
-- Whole.antt.
use Rattle.std.proofs.Common.{refl, arith, ◌≡◌, ◌∙◌, ap, ap₂, sym, ℕ, zero, suc, true, List, [], ◌∷◌, length, map, take, drop, slice_get, Some, replicate}
use Rattle.std.proofs.lemmas.Option.{same_Some}
use Rattle.l2_window.specs.Window.{WindowState}
use Rattle.l2_units.specs.declared.unit.Unit.{Unit as SignalUnit}
use Rattle.pair_steps.specs.Lines.{no_units, units_on}
use Rattle.set_events.specs.declared.config.Method.{Method}
use Rattle.set_events.specs.declared.config.SetConfig.{SetConfig}
use Rattle.set_model.specs.Rows.{Row, body_at, owner_at, is_unacked, unack, IsNumbered}
use Rattle.set_model.specs.Sound.{IsSettings}
use Rattle.set_model.specs.State.{given, LinkState, Settings, has_phase_settled, new_link, opened_with, settings_of}
use Rattle.set_model.proofs.Soundness.{opened_sound}
use Rattle.pair_model.specs.Promises.{IsOneMethod, IsKeptOn}
use Rattle.pair_model.specs.Run.{Message, Past, messages, bodies, no_past, begun}
use Rattle.pair_model.proofs.Controls.{one_link}
use Rattle.pair_model.proofs.Pairs.{Two, HoldsOf, side}
use Rattle.pair_model.proofs.Rising.{unborn}
use Rattle.pair_model.proofs.Sending.{row_there, stand_each, numbers_of_messages}
use Rattle.pair_model.proofs.Tied.{StandIn, AreBodies, Side, Tied}

-- bodies of the first of the numbers that were sent are the first of the bodies that were
first_bodies : (rows : List Row) (took : List ℕ) (taken : List (List ℕ)) (sent : List Message)
    → AreBodies rows took taken → StandIn rows sent → took ≡ take (length took) (map (λ (m : Message). m.number) sent)
    → taken ≡ take (length taken) (bodies sent)
first_bodies rows [] [] sent are stand e = refl
first_bodies rows [] (b ∷ taken) sent are stand e = absurd are
first_bodies rows (n ∷ took) [] sent are stand e = absurd are
first_bodies rows (n ∷ took) (b ∷ taken) [] are stand e = absurd cc
first_bodies rows (n ∷ took) (b ∷ taken) (m ∷ sent) are stand e =
    let number : n ≡ m.number = cc in
    let rest : took ≡ take (length took) (map (λ (x : Message). x.number) sent) = cc in
    let body : b ≡ m.body = same_Some b m.body (sym are.0 ∙ ap (λ (k : ℕ). body_at k rows) number ∙ stand.0.0) in
    ap₂ (λ (x : List ℕ) (xs : List (List ℕ)). x ∷ xs) body (first_bodies rows took taken sent are.1 stand.1 rest)

as_many : (rows : List Row) (took : List ℕ) (taken : List (List ℕ)) → AreBodies rows took taken → length taken ≡ length took
as_many rows [] [] are = refl
as_many rows [] (b ∷ taken) are = absurd are
as_many rows (n ∷ took) [] are = absurd are
as_many rows (n ∷ took) (b ∷ taken) are = ap suc (as_many rows took taken are.1)

-- messages with the same numbers in the same rows are the same
same_messages : (rows : List Row) (xs ys : List Message) → StandIn rows xs → StandIn rows ys
    → map (λ (m : Message). m.number) xs ≡ map (λ (m : Message). m.number) ys → xs ≡ ys
same_messages rows [] [] a b e = refl
same_messages rows [] (y ∷ ys) a b e = absurd cc
same_messages rows (x ∷ xs) [] a b e = absurd cc
same_messages rows (x ∷ xs) (y ∷ ys) a b e =
    let number : x.number ≡ y.number = cc in
    let rest : map (λ (m : Message). m.number) xs ≡ map (λ (m : Message). m.number) ys = cc in
    let body : x.body ≡ y.body = same_Some x.body y.body (sym a.0.0 ∙ ap (λ (k : ℕ). body_at k rows) number ∙ b.0.0) in
    let users : x.users ≡ y.users = same_Some x.users y.users (sym a.0.1 ∙ ap (λ (k : ℕ). owner_at k rows) number ∙ b.0.1) in
    let one : x ≡ y = rw (number, body, users) refl in
    ap₂ (λ (m : Message) (ms : List Message). m ∷ ms) one (same_messages rows xs ys a.1 b.1 rest)

stand_rest : (rows : List Row) (n : ℕ) (xs : List Message) → StandIn rows xs → StandIn rows (drop n xs)
stand_rest rows zero xs stand = stand
stand_rest rows (suc n) [] stand = stand
stand_rest rows (suc n) (x ∷ xs) stand = stand_rest rows n xs stand.1

rest_numbers : (n : ℕ) (xs : List Message) → drop n (map (λ (m : Message). m.number) xs) ≡ map (λ (m : Message). m.number) (drop n xs)
rest_numbers zero xs = refl
rest_numbers (suc n) [] = refl
rest_numbers (suc n) (x ∷ xs) = rest_numbers n xs

-- what an end of a link passed, as a past
abbrev pub past_of : Side → Past
past_of x = record { sent = λ link. x.sent; taken = λ link. x.taken; offered = λ stream. []; got = λ stream. [] }

pub kept_tied : (l : ℕ) (mx my : Method) (one : IsOneMethod mx my) (x y : Side) (out back : List SignalUnit)
    → IsNumbered (given x.state) x.state.rows → Tied l mx my x y out back
    → IsKeptOn l (past_of x) (past_of y) x.state y.state
kept_tied l mx my one x y out back numbered t =
    let f = (one_link mx my one t.profile t.world t.run).0 in
    record {
      prefix = first_bodies x.state.rows t.world.far.took y.taken x.sent t.ties.far.took_is t.ties.near.stand
          (f.prefix ∙ ap (take (length t.world.far.took)) t.ties.near.sent_is);
      accepted = t.ties.far_counts;
      going = λ link there unsettled.
          let g = t.ties.near_goes link there unsettled in
          let many = as_many x.state.rows t.world.far.took y.taken t.ties.far.took_is in
          record {
            acked = omega (arith, g.acked, f.acked, many);
            unacked = same_messages x.state.rows (messages (unack l x.state.rows)) (drop link.acked x.sent)
                (stand_each x.state.rows (unack l x.state.rows)
                (λ i row e. row_there (given x.state) (λ r. is_unacked l r.fate) x.state.rows i row numbered e))
                (stand_rest x.state.rows link.acked x.sent t.ties.near.stand)
                (numbers_of_messages (unack l x.state.rows)
                ∙ sym (ap (λ (v : WindowState). v.unacked) g.window)
                ∙ f.unacked
                ∙ ap (λ (k : ℕ). drop k t.world.near.sent) g.acked
                ∙ ap (drop link.acked) t.ties.near.sent_is
                ∙ rest_numbers link.acked x.sent);
          };
    }

pub kept_on : (mx my : Method) (one : IsOneMethod mx my) (p : Two) → HoldsOf mx my p → (l : ℕ) → IsKeptOn l p.near_past p.far_past p.near p.far
kept_on mx my one p h l =
    let k = kept_tied l mx my one (side l p.near p.near_past) (side l p.far p.far_past) (units_on l p.out)
    (units_on l p.back) h.near_sound.numbered (h.ties l) in
    record { prefix = k.prefix; accepted = k.accepted; going = k.going }

-- AT FIRST
pub settings_sound : (config : SetConfig) → IsSettings (settings_of config)
settings_sound config = record { some_link = config.has_links; at_most_16 = config.links_in_range; managed = config.management }

same_there : (n l : ℕ) (link other : LinkState) → slice_get (replicate n link) l ≡ Some other → other ≡ link
same_there zero l link other e = absurd cc
same_there (suc n) zero link other e = sym (same_Some link other e)
same_there (suc n) (suc l) link other e = same_there n l link other e

count_of : {X : Type 0} (n : ℕ) (x : X) → length (replicate n x) ≡ n
count_of zero x = refl
count_of (suc n) x = ap suc (count_of n x)

nothing_on : (n l : ℕ) → units_on l (no_units n) ≡ []
nothing_on zero l = refl
nothing_on (suc n) zero = refl
nothing_on (suc n) (suc l) = nothing_on n l

new_settled : (settings : Settings) (l : ℕ) (link : LinkState) → slice_get (opened_with settings).links l ≡ Some link → has_phase_settled link.phase ≡ true
new_settled settings l link there =
    ap (λ (k : LinkState). has_phase_settled k.phase)
    (same_there settings.links l (new_link settings.profile settings.method) link there)

new_counts : (settings : Settings) (l : ℕ) (link : LinkState) → slice_get (opened_with settings).links l ≡ Some link → link.accepted ≡ 0
new_counts settings l link there = ap (λ (k : LinkState). k.accepted) (same_there settings.links l (new_link settings.profile settings.method) link there)

pub at_first : (a b : SetConfig) → a.links ≡ b.links → a.profile ≡ b.profile
    → HoldsOf a.method b.method (record {
      near = opened_with (settings_of a);
      far = opened_with (settings_of b);
      near_past = no_past;
      far_past = no_past;
      out = (begun a b).world.to_b;
      back = (begun a b).world.to_a;
    })
at_first a b same profiles = record {
  near_sound = opened_sound (settings_of a) (settings_sound a);
  far_sound = opened_sound (settings_of b) (settings_sound b);
  near_method = refl;
  far_method = refl;
  profiles = sym profiles;
  far_links = count_of b.links (new_link b.profile b.method) ∙ sym same ∙ sym (count_of a.links (new_link a.profile a.method));
  out_lines = count_of (length (opened_with (settings_of a)).links) [];
  back_lines = count_of (length (opened_with (settings_of a)).links) [];
  ties = λ l. rw (nothing_on (length (opened_with (settings_of a)).links) l)
      (unborn l a.method b.method (opened_with (settings_of a)) (opened_with (settings_of b))
      (new_settled (settings_of a) l) (new_settled (settings_of b) l) (new_counts (settings_of a) l)
      (new_counts (settings_of b) l));
}
