use Rattle.std.proofs.Common.{sym, subst, ◌∙◌, [], append-nil, Option, Some}
use Rattle.terminal_text.specs.Text.{MayRead}
use Rattle.terminal_text.specs.declared.open_end.End.{End as EndState}
use Rattle.text_lines.specs.Lines.{prints}
use Rattle.terminal_text.proofs.open_end.Terminal.carry_out.Goals as goal

pub returns-in_default-clause-carried : goal.returns-in_default-clause-carried
returns-in_default-clause-carried c = record {
  printed = [];
  added = sym (append-nil c.args.out.now.items);
  may = subst (λ (end : Option EndState). MayRead c.args.number end c.args.text.now (prints [] (Some c.in_ok-open.field-0)))
      (sym c.in_default.is ∙ c.self.view_is) c.in_ok-open.ensures;
}
