use Rattle.std.proofs.Common.{refl}
use Rattle.line_ring.specs.Places.{octets_from}
use Rattle.line_ring.proofs.places.Places.new.Goals as goal

pub returns : goal.returns
unfolding octets_from
returns c = refl
