use Rattle.text_entries.proofs.Sealed.{shown_is}
use Rattle.text_entries.proofs.texts.push_shown.Goals as goal

pub returns-in-Ok : goal.returns-in-Ok
returns-in-Ok c = rw (shown_is c.args.profile c.args.shown.now) c.in-Ok.ensures
