use Rattle.std.proofs.Common.{◌-◌, ◌++◌, arith}
use Rattle.l2_bits.specs.LineBits.{bits_of}
use Rattle.l2_bits.proofs.BitLemmas.{length-bits_of}
use Rattle.l2_bits.proofs.DeframingLemmas.{Plain, plain_all, content_more}
use Rattle.l2_bits.proofs.WindowLemmas.{plain_by}
use Rattle.l2_bits.proofs.FeedingLemmas.{last_moved}
use Rattle.l2_bits.proofs.deframing.Deframer.run.Goals as goal

pub returns : goal.returns
returns c = λ past is none.
    let line = is.line in
    let old = c.args.self.now in
    let bits = bits_of c.args.count c.args.bits in
    let plain : Plain line.since bits = plain_by past line.since bits old.last line.is_since is.last_bits none in
    let on =
    plain_all past line.since bits old.counting old.room (old.room - c.args.count) line.is_since plain line.keeps_count
    (omega (arith, length-bits_of c.args.count c.args.bits, c.requires.room)) (omega (arith, c.requires.room)) in
    rw c.from.ensures
    record {
      stands = record {
        last_bits = last_moved past bits old.last _ is.last_bits c.all_shifted_in-self.ensures;
        line = record {
          since = line.since ++ bits;
          is_since = on.is_since;
          has_content = content_more line.since bits old.content c.add.new.self plain line.has_content c.add.ensures.lost (c.add.ensures.holds line.has_content.bits line.has_content.holds);
          keeps_count = on.keeps;
        };
      };
      marks = on.marks;
    }
