use Rattle.std.proofs.Common.{sym, subst, ◌∷◌, []}
use Rattle.std.specs.Option.{option_map}
use Rattle.terminal_text.proofs.HearingLemmas.{ok_so}
use Rattle.terminal_text.proofs.RowLemmas.{shows_alone, shows_with_unit}
use Rattle.terminal_text.specs.Rows.{Shows}
use Rattle.terminal_text.specs.Showing.{turned}
use Rattle.terminal_text.proofs.rows.Rows.show.Goals as goal

pub returns-in-Some : goal.returns-in-Some
returns-in-Some c =
    ok_so c.add.result
    (λ adds. subst (λ found. Shows c.args.self.now (turned c.args.stopper (record { turn = c.args.turn.now; unit = option_map (λ u. u.now) found }) ∷ []) c.add.new.self)
    (sym c.in-Some.is)
    (shows_with_unit c.args.self.now c.show_lines.new.self c.add.new.self c.args.stopper c.args.turn.now c.in-Some.unit.now c.in_ok-show_lines.ensures adds))
    c.add.ensures

pub returns-in-None : goal.returns-in-None
returns-in-None c =
    subst (λ found. Shows c.args.self.now (turned c.args.stopper (record { turn = c.args.turn.now; unit = option_map (λ u. u.now) found }) ∷ []) c.show_lines.new.self)
    (sym c.in-None.is)
    (shows_alone c.args.self.now c.show_lines.new.self c.args.stopper c.args.turn.now c.in_ok-show_lines.ensures)
