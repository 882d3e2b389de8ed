use Rattle.std.proofs.Common.{arith, refl, ◌≡◌, ap, [], length, map}
use Rattle.std.proofs.lemmas.List.{length-append}
use Rattle.std.specs.Option.{option_to_list}
use Rattle.std.specs.Vec.Iter.{into_iter_items}
use Rattle.bank_crew.specs.Ends.{lined_task}
use Rattle.bank_crew.specs.Jobs.{duty_of}
use Rattle.bank_crew.proofs.Taking.{ran_out, taken}
use Rattle.bank_core.proofs.Tasks.{all_pushed, first_task, put_one}
use Rattle.bank_core.proofs.bank.Bank.put_works.Goals as goal

-- src/bank.rt
pub loop-config-preserved : goal.loop-config-preserved
loop-config-preserved g c =
    let kept = c.loop-config.invariant in
    let lines = taken (λ of_set. of_set.items) [] (into_iter_items c.loop-config.lines) c.next-in-Some.result (into_iter_items c.next-in-Some.new.self) c.new.result c.unwrap_or.result c.next-in-Some.ensures.items
    (λ none. ran_out _ _ c.next-in-Some.result _ _ c.next-in-Some.ensures.cases kept.2 none) c.unwrap_or.ensures c.new.ensures.items in
    let jobs = taken (λ of_set. map duty_of of_set.items) [] (into_iter_items c.loop-config.jobs) c.next-in-Some-2.result (into_iter_items c.next-in-Some-2.new.self) c.new-in-Some.result c.unwrap_or-in-Some.result c.next-in-Some-2.ensures.items
    (λ none. ran_out _ _ c.next-in-Some-2.result _ _ c.next-in-Some-2.ensures.cases kept.3 none) c.unwrap_or-in-Some.ensures (ap (map duty_of) c.new-in-Some.ensures.items) in
    let left = first_task c.args.self.users c.self.inside.users (ap (λ bank. bank.users) c.self.view_is) c.args.plan c.in-Some.config (into_iter_items c.next.new.self) (into_iter_items c.loop-config.configs) _ _ _ _ _ _ c.in-Some.ensures.items lines.0 lines.1 jobs.0 jobs.1 in (
      put_one (λ work. lined_task work.config work.users work.lines.items (map duty_of work.jobs.items) work.assignment.plan) c.loop-config.works.items c.push_reserved.new.self.items _ _ _ _ c.push_reserved.ensures.items left kept.0,
      omega (arith, c.in-Some.ensures.len, ap length c.in-Some.ensures.items, kept.1),
      omega (arith, c.next-in-Some.ensures.len, ap length c.next-in-Some.ensures.items, length-append (option_to_list c.next-in-Some.result) (into_iter_items c.next-in-Some.new.self), kept.2),
      omega (arith, c.next-in-Some-2.ensures.len, ap length c.next-in-Some-2.ensures.items, length-append (option_to_list c.next-in-Some-2.result) (into_iter_items c.next-in-Some-2.new.self), kept.3),
      omega (arith, c.in-Some.ensures.len, c.push_reserved.ensures.len, kept.4),
      omega (arith, c.push_reserved.ensures.capacity, kept.5),
      all_pushed (λ work. work.assignment.set ≡ work.config.set) c.loop-config.works.items c.push_reserved.new.self.items _ c.push_reserved.ensures.items kept.6 refl,
    )
