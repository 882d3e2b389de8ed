use Rattle.std.proofs.Common.{◌∙◌, ap, sym, subst, ◌++◌, [], ◌∷◌, List, ℕ}
use Rattle.std.proofs.lemmas.List.{append_assoc}
use Rattle.line_tape.specs.Taping.{Keeps}
use Rattle.line_tape.proofs.taped_line.TapedLineLine.put.Goals as goal

-- src/taped_line.rt
pub invariant_of-self-2 : goal.invariant_of-self-2
invariant_of-self-2 g c =
    let self = c.args.self.now in record {
      is_kept = subst (Keeps c.keep.new.self) (sym c.note.ensures) (c.keep.ensures self.put self.is_kept);
      passes = c.in-Ok.ensures.ok.0 ∙ ap (λ (xs : List ℕ). xs ++ c.args.octet ∷ []) self.passes
          ∙ append_assoc (g.L.Line.put_so_far self.before.value) self.put (c.args.octet ∷ [])
          ∙ ap (λ (xs : List ℕ). g.L.Line.put_so_far self.before.value ++ xs) (sym c.note.ensures);
    }
