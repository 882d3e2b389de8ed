use Rattle.std.proofs.Common.{refl, ◌∙◌, ap, sym, [], map, Err}
use Rattle.std.proofs.lemmas.List.{append-nil, map-append}
use Rattle.std.specs.Option.{option_map, option_to_list}
use Rattle.set_events.specs.declared.fault.SetFault.{SetFault}
use Rattle.bank_crew.proofs.Keeping.{one_kept}
use Rattle.bank_crew.proofs.collecting.collect_one.Goals as goal

-- src/collecting.rt
pub returns-then-is_err-clause-takes : goal.returns-then-is_err-clause-takes
returns-then-is_err-clause-takes g c = (Err SetFault.NoMemory, refl, refl)

pub returns-in-Some-clause-kept : goal.returns-in-Some-clause-kept
returns-in-Some-clause-kept g c was =
    one_kept (λ body. body.items) c.take-answered.result c.args.caller.now.seat.who c.args.caller.now.all c.take-answered.new.self.all c.end_of_call-ended.result c.args.report.now.taken.items c.reserve.new.self.items c.push_reserved.new.self.items _
    c.take-answered.ensures.calls c.end_of_call-ended.ensures (c.body_taken.ensures ∙ ap (λ r. option_to_list (option_map (λ body. body.items) r)) c.in-Some.is) c.reserve.ensures.items
    (ap (map (λ body. body.items)) c.push_reserved.ensures.items ∙ map-append (λ body. body.items) c.reserve.new.self.items _) was

pub returns-in_default-clause-kept : goal.returns-in_default-clause-kept
returns-in_default-clause-kept g c was =
    one_kept (λ body. body.items) c.take-answered.result c.args.caller.now.seat.who c.args.caller.now.all c.take-answered.new.self.all c.end_of_call-ended.result c.args.report.now.taken.items c.reserve.new.self.items c.reserve.new.self.items []
    c.take-answered.ensures.calls c.end_of_call-ended.ensures (c.body_taken.ensures ∙ ap (λ r. option_to_list (option_map (λ body. body.items) r)) c.in_default.is) c.reserve.ensures.items
    (sym (append-nil (map (λ body. body.items) c.reserve.new.self.items))) was
