use Rattle.text_lines.proofs.line_reader.LineReader.finish.Goals as goal

pub returns : goal.returns
returns g c = rw (← c.self.view_is) (rw (← c.deref.ensures.value) c.finished.ensures)
