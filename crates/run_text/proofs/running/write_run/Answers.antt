use Rattle.std.proofs.Common.{refl, arith, ◌∙◌, ap, sym, subst, All, length}
use Rattle.bank_traffic.specs.declared.traffic.TrafficEnds.{TrafficEnds}
use Rattle.bank_traffic.specs.Opening.{AreEndsOf, far_end, near_end}
use Rattle.std.specs.Option.{option_map}
use Rattle.run_text.specs.Running.{IsAnEnd, IsRunText, milliseconds}
use Rattle.run_text.proofs.Ends.{ends_of, nothing_written, runs_of, when_ok}
use Rattle.run_text.proofs.Failing.{fault_of_run, lack_fails, lack_of_run}
use Rattle.run_text.proofs.running.write_run.Goals as goal

-- src/running.rt
pub write_ends-requires-clause-ends : goal.write_ends-requires-clause-ends
write_ends-requires-clause-ends g c =
    let traffic = c.args.traffic.now in
    let near = ends_of traffic (near_end traffic) c.in-Ok.ends.near.items (when_ok (λ (ends : TrafficEnds). AreEndsOf c.args.traffic.now (near_end c.args.traffic.now) ends.near.items) _ c.in-Ok.ends c.run_through-came_to.ensures.near c.in-Ok.is) in
    let far = ends_of traffic (far_end traffic) c.in-Ok.ends.far.items (when_ok (λ (ends : TrafficEnds). AreEndsOf c.args.traffic.now (far_end c.args.traffic.now) ends.far.items) _ c.in-Ok.ends c.run_through-came_to.ensures.far c.in-Ok.is) in
    (subst (All IsAnEnd) (sym c.deref.ensures.value) near.0, subst (All IsAnEnd) (sym c.deref-2.ensures.value) far.0)

pub write_ends-requires-clause-few : goal.write_ends-requires-clause-few
write_ends-requires-clause-few g c =
    let traffic = c.args.traffic.now in
    let near = ends_of traffic (near_end traffic) c.in-Ok.ends.near.items (when_ok (λ (ends : TrafficEnds). AreEndsOf c.args.traffic.now (near_end c.args.traffic.now) ends.near.items) _ c.in-Ok.ends c.run_through-came_to.ensures.near c.in-Ok.is) in
    let far = ends_of traffic (far_end traffic) c.in-Ok.ends.far.items (when_ok (λ (ends : TrafficEnds). AreEndsOf c.args.traffic.now (far_end c.args.traffic.now) ends.far.items) _ c.in-Ok.ends c.run_through-came_to.ensures.far c.in-Ok.is) in (
      omega (arith, ap length c.deref.ensures.value, near.1, traffic.few_sets.1),
      omega (arith, ap length c.deref-2.ensures.value, far.1, traffic.few_sets.1),
    )

pub returns-clause-text : goal.returns-clause-text
returns-clause-text g c = (
  c.delivered_by-delivered.result,
  c.ended.result,
  c.ended.ensures,
  rw (← c.time_of-time.ensures) (runs_of c.args.traffic.now c.args.report _ c.in-Ok.ends.near.items c.deref.result.now c.in-Ok.ends.far.items c.deref-2.result.now c.write_ends.result _ _
      refl refl c.deref.ensures.value c.deref-2.ensures.value (when_ok (λ (ends : TrafficEnds). AreEndsOf c.args.traffic.now (near_end c.args.traffic.now) ends.near.items) _ c.in-Ok.ends c.run_through-came_to.ensures.near c.in-Ok.is) (when_ok (λ (ends : TrafficEnds). AreEndsOf c.args.traffic.now (far_end c.args.traffic.now) ends.far.items) _ c.in-Ok.ends c.run_through-came_to.ensures.far c.in-Ok.is) c.write_ends.ensures.text),
)

pub returns-clause-fault : goal.returns-clause-fault
returns-clause-fault g c =
    fault_of_run c.args.traffic.now c.deref.result.now c.deref-2.result.now
    (subst (AreEndsOf c.args.traffic.now (near_end c.args.traffic.now)) (sym c.deref.ensures.value) (when_ok (λ (ends : TrafficEnds). AreEndsOf c.args.traffic.now (near_end c.args.traffic.now) ends.near.items) _ c.in-Ok.ends c.run_through-came_to.ensures.near c.in-Ok.is))
    (subst (AreEndsOf c.args.traffic.now (far_end c.args.traffic.now)) (sym c.deref-2.ensures.value) (when_ok (λ (ends : TrafficEnds). AreEndsOf c.args.traffic.now (far_end c.args.traffic.now) ends.far.items) _ c.in-Ok.ends c.run_through-came_to.ensures.far c.in-Ok.is))
    c.write_ends.result c.write_ends.ensures.fault

pub returns-in-Err-clause-fault : goal.returns-in-Err-clause-fault
returns-in-Err-clause-fault g c = lack_of_run c.args.traffic.now c.in-Err.fault c.fault_of.result c.fault_of.ensures

pub returns-in-Err-clause-text : goal.returns-in-Err-clause-text
returns-in-Err-clause-text g c =
    (c.delivered_by-delivered.result, c.ended.result, c.ended.ensures, nothing_written (IsRunText c.args.traffic.now c.args.report (option_map milliseconds c.ended.result)) c.in-Err.fault c.fault_of.result _ c.fault_of.ensures)

pub returns-in-Err-clause-failed : goal.returns-in-Err-clause-failed
returns-in-Err-clause-failed g c = lack_fails c.in-Err.fault c.fault_of.result _ c.fault_of.ensures
