use Rattle.l2_bits.proofs.FeedingLemmas.{masked, bits_split}
use Rattle.l2_bits.proofs.rest.Rest.take.Goals as goal

pub returns-clause-split : goal.returns-clause-split
returns-clause-split c =
    rw (masked c.args.self.now.bits c.args.count c.requires.few)
    (bits_split c.args.self.now.left c.args.count c.args.self.now.bits c.requires.there)

pub returns-clause-taken : goal.returns-clause-taken
returns-clause-taken c = masked c.args.self.now.bits c.args.count c.requires.few
