use Rattle.std.proofs.Common.{[], refl, arith}
use Rattle.l2_bits.specs.LineBits.{bits_of}
use Rattle.l2_bits.specs.Flags.{flag}
use Rattle.l2_bits.proofs.FlagLemmas.{flag_first, since_flag}
use Rattle.l2_bits.proofs.CountingLemmas.{aligned_first}
use Rattle.l2_bits.proofs.DeframingLemmas.{content_none}
use Rattle.l2_bits.proofs.deframing.Deframer.new.Goals as goal

pub returns : goal.returns
unfolding flag bits_of
returns c = record {
  last_bits = record { front = []; split = refl };
  line = record {
    since = [];
    is_since = since_flag [] flag_first;
    has_content = content_none c.new.result c.new.ensures.holds c.new.ensures.none;
    keeps_count = (aligned_first flag_first, refl, omega arith);
  };
}
