-- A STAGE THAT MOVES LED TO, and one move more (`reached_on`). What holds along all such runs holds there (`users_take`,
-- `stands_there`, `holds_there`).
use Rattle.std.proofs.Common.{refl, ap, sym, subst, ◌≡◌, ◌∙◌, false, List, [], ◌∷◌, ◌++◌}
use Rattle.set_events.specs.declared.config.SetConfig.{SetConfig}
use Rattle.pair_steps.specs.declared.step.Shown.{Shown}
use Rattle.pair_model.specs.Promises.{IsOneMethod}
use Rattle.pair_model.specs.Run.{OnShows}
use Rattle.pair_model.specs.World.{World, Outcome, shows}
use Rattle.pair_streams.specs.Handed.{UsersTakeFirst}
use Rattle.pair_rises.specs.declared.moves.Move.{Move}
use Rattle.pair_rises.specs.Counted.{IsCounted}
use Rattle.pair_rises.specs.Rises.{Rising, opening, moved, moved_on, AreMoves, HoldsAllAlong, HoldsAtEachMove, HoldsBefore, IsPlainMove, IsRun, MayMove}
use Rattle.pair_rises.proofs.Counted.{every_missed_life}
use Rattle.pair_rises.specs.Handed.{HandsOutWhereIdle}
use Rattle.pair_rises.proofs.Handing.{hands_out, idle_hands_out}
use Rattle.pair_rises.proofs.Runs.{Holds, along, first_holds}
use Rattle.pair_wires.specs.Apart.{StandsApart}
use Rattle.pair_wires.proofs.Apart.{each_apart}

abbrev pub Leads : Rising → List Move → Rising → Type 0
Leads g [] so_far = so_far ≡ g
Leads g (move ∷ moves) so_far =
    (shown : Shown) × (new : World) × (moved g.stage.world move ≡ shows shown new) × Leads (moved_on g move shown new) moves so_far

-- what is told of each outcome is told of this one
of_shown : (P : Shown → World → Type 0) (outcome : Outcome) (shown : Shown) (new : World) → outcome ≡ shows shown new → OnShows outcome P → P shown new
of_shown P outcome shown new is on = subst (λ (o : Outcome). OnShows o P) is on

on_shown : (P : Shown → World → Type 0) (outcome : Outcome) (shown : Shown) (new : World) → outcome ≡ shows shown new → P shown new → OnShows outcome P
on_shown P outcome shown new is holds = subst (λ (o : Outcome). OnShows o P) (sym is) holds

at_last : (P : Rising → Type 0) (moves : List Move) (g so_far : Rising) → Leads g moves so_far → HoldsAllAlong P g moves → P so_far
at_last P [] g so_far same holds = subst P (sym same) holds
at_last P (move ∷ moves) g so_far leads holds =
    at_last P moves (moved_on g move leads.0 leads.1) so_far leads.3
    (of_shown (λ shown new. HoldsAllAlong P (moved_on g move shown new) moves) (moved g.stage.world move) leads.0 leads.1 leads.2 holds.1)

-- of the last move
at_last_move : (P : Rising → Move → Shown → Rising → Type 0) (moves : List Move) (last : Move) (g so_far : Rising) (shown : Shown) (new : World)
    → Leads g moves so_far → moved so_far.stage.world last ≡ shows shown new → HoldsAtEachMove P g (moves ++ last ∷ []) → P so_far last shown (moved_on so_far last shown new)
at_last_move P [] last g so_far shown new same is holds =
    subst (λ (h : Rising). P h last shown (moved_on h last shown new)) (sym same)
    (of_shown (λ shown new. P g last shown (moved_on g last shown new) × Unit {0}) (moved g.stage.world last) shown new
    (ap (λ (h : Rising). moved h.stage.world last) (sym same) ∙ is) holds).0
at_last_move P (move ∷ moves) last g so_far shown new leads is holds =
    at_last_move P moves last (moved_on g move leads.0 leads.1) so_far shown new leads.3 is
    (of_shown (λ shown new. P g move shown (moved_on g move shown new) × HoldsAtEachMove P (moved_on g move shown new) (moves ++ last ∷ []))
    (moved g.stage.world move) leads.0 leads.1 leads.2 holds).1

leads_more : (moves : List Move) (g mid : Rising) (move : Move) (shown : Shown) (new : World) → Leads g moves mid
    → moved mid.stage.world move ≡ shows shown new → Leads g (moves ++ move ∷ []) (moved_on mid move shown new)
leads_more [] g mid move shown new same is =
    (shown, new, ap (λ (h : Rising). moved h.stage.world move) (sym same) ∙ is, ap (λ (h : Rising). moved_on h move shown new) same)
leads_more (m ∷ moves) g mid move shown new leads is =
    (leads.0, leads.1, leads.2, leads_more moves (moved_on g m leads.0 leads.1) mid move shown new leads.3 is)

before_more : (moves : List Move) (g mid : Rising) (move : Move) (shown : Shown) (new : World) → Leads g moves mid
    → moved mid.stage.world move ≡ shows shown new → HoldsBefore MayMove g moves → MayMove mid move → HoldsBefore MayMove g (moves ++ move ∷ [])
before_more [] g mid move shown new same is held may =
    let there : MayMove g move = subst (λ (h : Rising). MayMove h move) same may in
    (there, on_shown (λ shown new. Unit {0}) (moved g.stage.world move) shown new (ap (λ (h : Rising). moved h.stage.world move) (sym same) ∙ is) tt)
before_more (m ∷ moves) g mid move shown new leads is held may =
    let next = moved_on g m leads.0 leads.1 in
    let rest = of_shown (λ shown new. HoldsBefore MayMove (moved_on g m shown new) moves) (moved g.stage.world m) leads.0 leads.1 leads.2 held.1 in (
      held.0,
      on_shown (λ shown new. HoldsBefore MayMove (moved_on g m shown new) (moves ++ move ∷ [])) (moved g.stage.world m) leads.0 leads.1 leads.2
          (before_more moves next mid move shown new leads.3 is rest may),
    )

are_more : (P : Move → Type 0) (moves : List Move) (move : Move) → AreMoves P moves → P move → AreMoves P (moves ++ move ∷ [])
are_more P [] move are is = (is, tt)
are_more P (m ∷ moves) move are is = (are.0, are_more P moves move are.1 is)

module _ (a b : SetConfig) where
  pub record Reached (moves : List Move) (g : Rising) : Type 0 where
    pub run : IsRun false a b moves
    pub leads : Leads (opening a b) moves g

  pub first_reached : a.links ≡ b.links → a.profile ≡ b.profile → IsOneMethod a.method b.method → Reached [] (opening a b)
  first_reached links profiles one =
      record { run = record { links = links; profiles = profiles; one_method = one; moves_are = tt; may = tt }; leads = refl }

  pub reached_on : (moves : List Move) (g : Rising) (move : Move) (shown : Shown) (new : World) → Reached moves g
      → moved g.stage.world move ≡ shows shown new → IsPlainMove false move → MayMove g move → Reached (moves ++ move ∷ []) (moved_on g move shown new)
  reached_on moves g move shown new r is plain may = record {
    run = record {
      links = r.run.links;
      profiles = r.run.profiles;
      one_method = r.run.one_method;
      moves_are = are_more (IsPlainMove false) moves move r.run.moves_are plain;
      may = before_more moves (opening a b) g move shown new r.leads is r.run.may may;
    };
    leads = leads_more moves (opening a b) g move shown new r.leads is;
  }

  module _ (moves : List Move) (g : Rising) (r : Reached moves g) where
    pub stands_there : StandsApart g
    stands_there = at_last StandsApart moves (opening a b) g r.leads (each_apart false a b moves r.run)

    pub users_take : UsersTakeFirst g.stage
    users_take = at_last (λ h. UsersTakeFirst h.stage) moves (opening a b) g r.leads (hands_out a b moves r.run)

    pub hands_out_idle : HandsOutWhereIdle g
    hands_out_idle = at_last HandsOutWhereIdle moves (opening a b) g r.leads (idle_hands_out a b moves r.run)

    pub holds_there : Holds false a.method b.method r.run.one_method g
    holds_there =
        at_last (λ h. Holds false a.method b.method r.run.one_method h) moves (opening a b) g r.leads
        (along false a.method b.method r.run.one_method (λ h. Holds false a.method b.method r.run.one_method h) (λ h holds. holds) moves (opening a b)
        (first_holds false a b r.run.one_method r.run.links r.run.profiles) r.run.moves_are r.run.may)

    -- the last move of those
    pub counted_then : (move : Move) (shown : Shown) (new : World) → moved g.stage.world move ≡ shows shown new → IsPlainMove false move → MayMove g move
        → IsCounted g (moved_on g move shown new)
    counted_then move shown new is plain may =
        let so_far = reached_on moves g move shown new r is plain may in
        at_last_move (λ before m s after. IsCounted before after) moves move (opening a b) g shown new r.leads is
        (every_missed_life false a b (moves ++ move ∷ []) so_far.run)
