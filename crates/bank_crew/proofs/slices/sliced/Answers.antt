use Rattle.std.proofs.Common.{◌∙◌, ◌≤◌, ℕ, arith, ap, subst, sym, refl, length, List, [], ◌∷◌, ◌++◌, Ok, Err, Option}
use Rattle.std.proofs.lemmas.List.{append-nil, append_assoc}
use Rattle.link_term.specs.Standing.{lent, stands}
use Rattle.bank_crew.specs.Managing.{Look}
use Rattle.bank_crew.specs.Shifts.{MayBe, RunTurns, TurnsOf, is_out, look_at, look_of, stop_of, up_to}
use Rattle.bank_crew.proofs.Running.{all_slices, look_seen, looked_on, looks_on, slice_breaks, slice_more, slices_end}
use Rattle.bank_crew.proofs.slices.sliced.Goals as goal

-- src/slices.rt
pub loop-left-init : goal.loop-left-init
loop-left-init g c =
    let seen = g.D.SliceDoor.looks c.args.door.now in record {
      few = omega arith;
      works = c.requires.failed;
      at = c.requires.at;
      number = refl;
      door = g.met.D.SliceDoor.same_goes_on _ _ (g.met.D.Door.same_self c.args.door.now);
      line = g.met.L.Line.same_self c.args.line.now;
      so_far = ([], sym (append-nil seen), λ ended more after rest. rest);
    }

-- one look more, behind those so far
pub returns-in-End-clause-turns : goal.returns-in-End-clause-turns
returns-in-End-clause-turns g c =
    let kept = c.loop-left.invariant in
    let plan = c.args.assignment.now.plan in
    let told = subst (MayBe plan c.link-link.result c.loop-left.left) c.in-End.is c.instruct-instruction.ensures in
    let look = c.look-sight.ensures in
    let door = c.loop-left.door in
    let looked = c.look-sight.new.self in
    let at = stands g.D.Door g.L.Line (lent c.loop-left.works door c.loop-left.line) in
    let made = g.D.Door.made door in
    let out = c.is_out_of_service.result in
    let sight = c.look-sight.result in
    let of = g.D.SliceDoor.looks in
    let this = look_at at sight in (
      kept.so_far.0 ++ this ∷ [],
      looks_on (of c.args.door.now) (of door) (of looked) (of looked) kept.so_far.0 (look_of (length made) out sight) this kept.so_far.1 look.looks refl
          (look_seen made out (is_out c.loop-left.works.inside) sight c.is_out_of_service.ensures),
      kept.so_far.2 _ (this ∷ []) _ (slices_end _ _ _ sight _ _ _ (looked_on _ _ _ _ _ _ _ look.made look.faults)
          (subst (λ n. MayBe plan n c.loop-left.left _) c.link-link.ensures told) (omega (arith, c.loop-left-test.true))),
    )

pub returns-in-Err : goal.returns-in-Err
returns-in-Err g c =
    let kept = c.loop-left.invariant in
    let look = c.look-sight.ensures in
    let plan = c.args.assignment.now.plan in
    let number = c.link-link.ensures in
    let told = subst (λ n. MayBe plan n c.loop-left.left c.instruct-instruction.result) number c.instruct-instruction.ensures in
    let slice = c.slice_of-turns.ensures in
    let turns = c.slice_of-turns.result in
    let left = c.loop-left.left in
    let few = subst (λ (n : ℕ). turns ≤ up_to (stop_of plan n) left) number (subst (λ (stop : Option ℕ). turns ≤ up_to stop left) c.stop_of-stop.ensures slice.reach) in
    let order = c.order.ensures in
    let failed = ap (λ w. w.failed) order ∙ kept.works in
    let run = c.in-Err.ensures.runs in
    let door = c.loop-left.door in
    let looked = c.look-sight.new.self in
    let ran = c.run.new.door in
    let line = c.loop-left.line in
    let at = stands g.D.Door g.L.Line (lent c.loop-left.works door line) in
    let made = g.D.Door.made door in
    let out = c.is_out_of_service.result in
    let sight = c.look-sight.result in
    let of = g.D.SliceDoor.looks in
    let this = look_at at sight in
    let broke = subst (λ w. RunTurns c.slice_of-turns.result (Err c.in-Err.fault) (stands g.D.Door g.L.Line (lent w looked line)) (stands g.D.Door g.L.Line (lent c.run.new.self ran c.run.new.line))) order (run.breaks failed) in record {
      turns = (
        kept.so_far.0 ++ this ∷ [],
        looks_on (of c.args.door.now) (of door) (of looked) (of ran) kept.so_far.0 (look_of (length made) out sight) this kept.so_far.1 look.looks (g.met.D.SliceDoor.same_looks looked ran run.door)
            (look_seen made out (is_out c.loop-left.works.inside) sight c.is_out_of_service.ensures),
        kept.so_far.2 _ (this ∷ []) _ (slice_breaks _ _ _ c.slice_of-turns.result sight c.instruct-instruction.result _ _ _ (looked_on _ _ _ _ _ _ _ look.made look.faults) told few slice.short c.in-Err.fault _ broke),
      );
      number = run.number ∙ look.number ∙ kept.number;
      door = g.met.D.SliceDoor.goes_on_on c.args.door.now door ran kept.door (g.met.D.SliceDoor.goes_on_on door looked ran look.same (g.met.D.SliceDoor.same_goes_on looked ran run.door));
      line = g.met.L.Line.same_on _ _ _ kept.line run.same;
    }

pub loop-left-preserved : goal.loop-left-preserved
loop-left-preserved g c =
    let kept = c.loop-left.invariant in
    let look = c.look-sight.ensures in
    let plan = c.args.assignment.now.plan in
    let number = c.link-link.ensures in
    let told = subst (λ n. MayBe plan n c.loop-left.left c.instruct-instruction.result) number c.instruct-instruction.ensures in
    let slice = c.slice_of-turns.ensures in
    let turns = c.slice_of-turns.result in
    let left = c.loop-left.left in
    let few = subst (λ (n : ℕ). turns ≤ up_to (stop_of plan n) left) number (subst (λ (stop : Option ℕ). turns ≤ up_to stop left) c.stop_of-stop.ensures slice.reach) in
    let order = c.order.ensures in
    let run = c.in-Ok.ensures.runs in
    let door = c.loop-left.door in
    let looked = c.look-sight.new.self in
    let ran = c.run.new.door in
    let line = c.loop-left.line in
    let at = stands g.D.Door g.L.Line (lent c.loop-left.works door line) in
    let made = g.D.Door.made door in
    let out = c.is_out_of_service.result in
    let sight = c.look-sight.result in
    let of = g.D.SliceDoor.looks in
    let this = look_at at sight in
    let went = subst (λ w. RunTurns c.slice_of-turns.result (Ok c.in-Ok.more) (stands g.D.Door g.L.Line (lent w looked line)) (stands g.D.Door g.L.Line (lent c.run.new.self ran c.run.new.line))) order run.went.1 in
    let whole = TurnsOf plan (g.D.Door.number c.args.door.now) in
    let start = stands g.D.Door g.L.Line (lent c.args.works.now c.args.door.now c.args.line.now) in record {
      few = omega (arith, kept.few);
      works = run.goes_on;
      at = run.at;
      number = run.number ∙ look.number ∙ kept.number;
      door = g.met.D.SliceDoor.goes_on_on c.args.door.now door ran kept.door (g.met.D.SliceDoor.goes_on_on door looked ran look.same (g.met.D.SliceDoor.same_goes_on looked ran run.door));
      line = g.met.L.Line.same_on _ _ _ kept.line run.same;
      so_far = (
        kept.so_far.0 ++ this ∷ [],
        looks_on (of c.args.door.now) (of door) (of looked) (of ran) kept.so_far.0 (look_of (length made) out sight) this kept.so_far.1 look.looks (g.met.D.SliceDoor.same_looks looked ran run.door)
            (look_seen made out (is_out c.loop-left.works.inside) sight c.is_out_of_service.ensures),
        λ ended more after rest. subst (λ (looks : List Look). whole ended looks start after) (sym (append_assoc kept.so_far.0 (this ∷ []) more))
            (kept.so_far.2 ended (this ∷ more) after (slice_more _ _ _ c.slice_of-turns.result sight c.instruct-instruction.result _ _ _ (looked_on _ _ _ _ _ _ _ look.made look.faults) told few slice.short c.in-Ok.more c.one_report-counted.result ended more _ after
            (slice.some (omega (arith, c.loop-left-test.true))) went c.one_report-counted.ensures rest)),
      );
    }

pub returns-clause-turns : goal.returns-clause-turns
returns-clause-turns g c =
    let kept = c.loop-left.invariant in (
      kept.so_far.0 ++ [],
      kept.so_far.1 ∙ ap (λ (looks : List Look). g.D.SliceDoor.looks c.args.door.now ++ looks) (sym (append-nil kept.so_far.0)),
      kept.so_far.2 _ [] _ (all_slices _ _ _ _ _ (omega (arith, c.loop-left-test.false))),
    )
