use Rattle.text_calls.specs.declared.running.TextFault.TheVariants.{Play as PlayFault, Explained as ExplainedPlayFault}
use Rattle.text_calls.specs.Running.{IsExplainedOf, IsToldOf}
use Rattle.text_calls.proofs.RunLemmas.{one_fault, prints_all}
use Rattle.text_calls.proofs.running.run_script.Goals as goal

pub returns-then-explains-clause-text : goal.returns-then-explains-clause-text
returns-then-explains-clause-text g c =
    rw (one_fault ExplainedPlayFault _ (λ fault given e. e) c.tell_explained.result c.of_any.result c.of_any.ensures, c.if-explains.true)
    (prints_all (IsExplainedOf c.args.told) ExplainedPlayFault c.tell_explained.result _ _ _ c.tell_explained.ensures.text)

pub returns-clause-text : goal.returns-clause-text
returns-clause-text g c =
    rw (one_fault PlayFault _ (λ fault given e. e) c.tell.result c.of_any-2.result c.of_any-2.ensures, c.if-explains.false)
    (prints_all (IsToldOf c.args.told) PlayFault c.tell.result _ _ _ c.tell.ensures.text)
