use Rattle.std.proofs.Common.{◌≡◌, ◌++◌, ◌*◌, drop}
use Rattle.std.specs.Option.{option_map}
use Rattle.text_base.specs.Figures.{octets_of}
use Rattle.text_base.proofs.figures.read_octets.Given as goal

abbrev pub invariant-loop-place : goal.invariant-loop-place
invariant-loop-place l = octets_of l.word ≡ option_map (λ more. l.octets.items ++ more) (octets_of (drop (2 * l.place) l.word))
