use Rattle.terminal_text.specs.Explaining.{IsExplainedTerminalText}
use Rattle.terminal_text.specs.Text.{IsTerminalText}
use Rattle.text_calls.specs.declared.running.TextFault.TheVariants.{Terminal as TerminalLineFault, ExplainedTerminal as ExplainedTerminalLineFault}
use Rattle.text_calls.specs.Running.{IsKeptOf}
use Rattle.text_calls.proofs.RunLemmas.{one_fault, prints_all}
use Rattle.text_calls.proofs.running.run_terminal.Goals as goal

pub returns-then-keeps-clause-text : goal.returns-then-keeps-clause-text
returns-then-keeps-clause-text g c =
    rw (one_fault TerminalLineFault _ (λ fault given e. e) c.run_kept.result c.of_any.result c.of_any.ensures, c.if-keeps.true)
    (prints_all (IsKeptOf c.args.explains) TerminalLineFault c.run_kept.result _ _ _ c.run_kept.ensures.text)

pub returns-then-explains-clause-text : goal.returns-then-explains-clause-text
returns-then-explains-clause-text g c =
    rw (one_fault ExplainedTerminalLineFault _ (λ fault given e. e) c.terminal_explained.result c.of_any-then-explains.result c.of_any-then-explains.ensures, c.if-keeps.false, c.if-explains.true)
    (prints_all IsExplainedTerminalText ExplainedTerminalLineFault c.terminal_explained.result _ _ _ c.terminal_explained.ensures.text)

pub returns-clause-text : goal.returns-clause-text
returns-clause-text g c =
    rw (one_fault TerminalLineFault _ (λ fault given e. e) c.terminal.result c.of_any-2.result c.of_any-2.ensures, c.if-keeps.false, c.if-explains.false)
    (prints_all IsTerminalText TerminalLineFault c.terminal.result _ _ _ c.terminal.ensures.text)
