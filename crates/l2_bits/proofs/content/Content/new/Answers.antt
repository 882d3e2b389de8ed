use Rattle.std.proofs.Common.{replicate, refl, arith}
use Rattle.std.proofs.lemmas.List.Elements.{All-replicate}
use Rattle.l2_bits.proofs.OctetLemmas.{IsOctet}
use Rattle.l2_bits.proofs.PackingLemmas.{none_held}
use Rattle.l2_bits.proofs.content.Content.new.Goals as goal

pub returns-clause-holds : goal.returns-clause-holds
returns-clause-holds c =
    none_held (record { octets = replicate 287 0; len = 0; part = 0; more = 0 }) refl (All-replicate IsOctet 287 0 (omega arith))
