use Rattle.std.proofs.Common.{ap, ◌≡◌, ◌∙◌, ◌+◌, ◌*◌, ◌/◌, ◌%◌, ◌^◌, Bool, List, ◌++◌, drop, take}
use Rattle.l2_bits.specs.LineBits.{bits_of, number_of}
use Rattle.term_bench.specs.Ends.{AtLink, at_link}
use Rattle.term_bench.specs.Waiting.{waits_with}
use Rattle.term_bench.proofs.WaitingLemmas.{octet_of, rest_of}
use Rattle.term_bench.proofs.link.LinkEnd.complete.Goals as goal

pub returns-clause-octet : goal.returns-clause-octet
returns-clause-octet c =
    let inside = c.self.inside in
    let octet = c.args.octet in
    let whole : c.from.result * c.place_of.result + c.from-2.result ≡ octet * 2 ^ inside.waiting + inside.bits =
    ap (λ n. n * c.place_of.result + c.from-2.result) c.from.ensures
    ∙ ap (λ n. octet * n + c.from-2.result) c.place_of.ensures.value
    ∙ ap (λ n. octet * 2 ^ inside.waiting + n) c.from-2.ensures in
    octet_of inside.waiting inside.bits octet _ c.self.invariant.1 (ap (λ n. n % 256) whole)
    ∙ ap (λ (at : AtLink). number_of (take 8 (at.waiting ++ bits_of 8 octet))) c.self.view_is

pub returns-clause-waits : goal.returns-clause-waits
returns-clause-waits c =
    let inside = c.self.inside in
    let octet = c.args.octet in
    let whole : c.from.result * c.place_of.result + c.from-2.result ≡ octet * 2 ^ inside.waiting + inside.bits =
    ap (λ n. n * c.place_of.result + c.from-2.result) c.from.ensures
    ∙ ap (λ n. octet * n + c.from-2.result) c.place_of.ensures.value
    ∙ ap (λ n. octet * 2 ^ inside.waiting + n) c.from-2.ensures in
    ap (λ (bits : List Bool). waits_with bits (at_link inside.works inside.bits inside.waiting inside.counts))
    (rest_of inside.waiting inside.bits octet _ c.self.invariant.1 (ap (λ n. n / 256) whole))
    ∙ ap (λ (at : AtLink). waits_with (drop 8 (at.waiting ++ bits_of 8 octet)) at) c.self.view_is
