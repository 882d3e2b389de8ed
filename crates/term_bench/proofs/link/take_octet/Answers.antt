use Rattle.std.proofs.Common.{ap, sym, subst, ◌∙◌, ℕ, Bool, [], ◌∷◌, Option, if◌then◌else◌}
use Rattle.std.specs.Option.{option_to_list}
use Rattle.set_model.specs.History.{LinkSet}
use Rattle.term_bench.proofs.SlotLemmas.{Replays, fails_by, takes}
use Rattle.term_bench.proofs.link.take_octet.Goals as goal

pub returns-in-Some-clause-takes : goal.returns-in-Some-clause-takes
returns-in-Some-clause-takes g c =
    let takes_turns = c.in-Ok.ensures.turns in
    let turns = takes_turns.went in
    let slot = c.new-slot.ensures in
    let law : Replays c.args.door.now.set = subst (λ (s : LinkSet). Replays s) c.set.ensures
    (record { legal = c.replays.ensures.legal; agrees = c.replays.ensures.agrees }) in
    let law' : Replays c.turn_tapped.new.door.set = subst (λ (s : LinkSet). Replays s) c.set-in-Ok.ensures
    (record { legal = c.replays-in-Ok.ensures.legal; agrees = c.replays-in-Ok.ensures.agrees }) in (
      turns.0,
      turns.1.0.turn.chosen.unit,
      takes _ _ _ _ _ _ _ _ _ _ _ _ _ _ _ c.in-Some.put _ _ _ turns.1.0 takes_turns.door law law' c.requires.heard
          (ap (λ (b : Bool). if b then c.new-slot.result.octet ∷ [] else []) slot.taken)
          (ap (λ (b : Bool). if b then [] else c.new-slot.result.octet ∷ []) slot.taken ∙ ap (λ (o : ℕ). o ∷ []) slot.octet)
          (takes_turns.same ∙ slot.octet)
          (ap (λ (o : Option ℕ). option_to_list o) slot.put)
          (sym c.put.ensures ∙ c.in-Some.is),
      turns.1.1,
    )

pub returns-in-Err-clause-breaks : goal.returns-in-Err-clause-breaks
returns-in-Err-clause-breaks g c = λ working.
    let slot = c.new-slot.ensures in
    let broke = c.in-Err.ensures.turns in
    fails_by c.args.octet c.in-Err.fault c.args.works.now.taken c.turn_tapped.new.self.taken c.args.works.now.inside
    c.turn_tapped.new.self.inside _ _ c.args.door.now.set c.turn_tapped.new.door.set _ _ c.turn_tapped.new.line.octet
    c.turn_tapped.new.line.is_taken _ (broke.breaks working) broke.door
    (ap (λ (b : Bool). if b then c.new-slot.result.octet ∷ [] else []) slot.taken) (broke.same ∙ slot.octet)
