use Rattle.std.proofs.Common.{sym, subst, map, take, List, Bool}
use Rattle.l2_bits.specs.LineBits.{bits_of}
use Rattle.terminal_text.proofs.HearingLemmas.{exchanging_more, map_more}
use Rattle.terminal_text.specs.Hearing.{Exchanging}
use Rattle.terminal_text.proofs.hearing.hear_octets.Goals as goal

pub loop-octet-preserved : goal.loop-octet-preserved
loop-octet-preserved c =
    let octets = c.args.octets.now in
    subst (λ (pieces : List (List Bool)). Exchanging c.args.link pieces c.args.bench.now c.hear_octet.new.bench c.new-rows.result
    c.hear_octet.new.rows c.in_ok-put.put.items c.hear_octet.new.put.items)
    (sym (map_more (bits_of 8) octets c.loop-octet.octet-index 0 c.loop-octet-test.true))
    (exchanging_more c.args.link (map (bits_of 8) (take c.loop-octet.octet-index octets)) _ c.args.bench.now c.loop-octet.bench
    c.hear_octet.new.bench c.new-rows.result c.loop-octet.rows c.hear_octet.new.rows c.in_ok-put.put.items c.loop-octet.put.items
    c.hear_octet.new.put.items c.loop-octet.invariant c.in_ok-hear_octet.ensures)
