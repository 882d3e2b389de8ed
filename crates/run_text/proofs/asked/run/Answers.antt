use Rattle.std.specs.Option.{option_map}
use Rattle.run_text.specs.Asked.{IsTextAsked}
use Rattle.run_text.specs.Running.{milliseconds}
use Rattle.run_text.proofs.Ends.{fault_asked, wider}
use Rattle.run_text.proofs.asked.run.Goals as goal

-- src/asked.rt
pub returns-clause-text : goal.returns-clause-text
returns-clause-text g c =
    let timed = c.write_run.ensures.text in
    wider _ (IsTextAsked c.args.words.now) (λ missing text is. (c.traffic_of-traffic.result, option_map milliseconds timed.1, c.traffic_of-traffic.ensures, is)) c.write_run.result _ _ timed.3

pub returns-clause-fault : goal.returns-clause-fault
returns-clause-fault g c = fault_asked c.args.words.now c.traffic_of-traffic.result c.traffic_of-traffic.ensures c.write_run.result c.write_run.ensures.fault
