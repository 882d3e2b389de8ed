use Rattle.std.proofs.Common.{ap, ◌∙◌, Err}
use Rattle.history_audit.proofs.Said.{reads_on, stops_explained, stops_for_memory}
use Rattle.history_audit.proofs.explaining.ExplainedLinesLineText.line.Goals.{in-Ok, in-Err-Input, in-Err-Memory}
use Rattle.history_audit.proofs.explaining.ExplainedLinesLineText.line.Goals as goal

pub returns : goal.returns
returns c = elim c.match-tell.branch [
  | in-Ok w ↦ rw (w.result-is, ← c.self.view_is) (reads_on _ _ _ _ _ c.requires (rw w.in-Ok.is at c.tell.ensures))
  | in-Err-Input w ↦ rw (w.result-is, ← c.self.view_is)
      (stops_explained _ c.tell.new.self _ _ w.in-Err-Input.fault c.requires (rw (w.in-Err-Input.is ∙ ap Err w.in-Err-Input.field-0-is) at c.tell.ensures) w.explained.result c.profile-profile.result _ c.profile-profile.ensures w.explained.ensures)
  | in-Err-Memory w ↦ rw (w.result-is, ← c.self.view_is) (stops_for_memory _ _ _ _)
]
