use Rattle.std.proofs.Common.{◌≡◌, ℕ, ◌+◌, ◌*◌, ◌/◌, ◌%◌, ◌^◌, ◌<◌, bit_and, bit_or, ap, ◌∙◌, arith}
use Rattle.std.proofs.lemmas.Nat.{and_mask}
use Rattle.l2_bits.proofs.PackingLemmas.{same_more, whole_is, added}
use Rattle.l2_bits.proofs.content.Content.add.Goals as goal

pub returns-clause-holds : goal.returns-clause-holds
returns-clause-holds c = λ content holds.
    let old = c.args.self.now in
    let few = c.requires.few in
    let fits = c.requires.fits in
    let more = same_more old content c.args.bits c.args.count holds few fits in
    let whole = whole_is old content c.args.bits c.args.count holds few fits in
    let len : c.min-len.result ≡ old.len = omega (arith, c.min-len.ensures, holds.few) in
    let octets = (bit_and old.more 7 + c.args.count) / 8 in
    let low : bit_and (bit_and old.more 7 + c.args.count) 7 ≡ (bit_and old.more 7 + c.args.count) % 8 = and_mask (bit_and old.more 7 + c.args.count) 3 in
    let split : old.more + c.args.count ≡ 8 * octets + bit_and (bit_and old.more 7 + c.args.count) 7 = omega (arith, low, more) in
    let less : bit_and (bit_and old.more 7 + c.args.count) 7 < 8 = omega (arith, low) in
    let turned : octets * 8 ≡ 8 * octets = omega arith in
    rw (c.put.ensures, len, c.from.ensures)
    (added old content c.args.bits c.args.count holds few fits octets _ _ _ whole split less
    (and_mask _ 8 ∙ ap (λ (k : ℕ). bit_or old.part (c.args.bits * 2 ^ bit_and old.more 7 % 2 ^ 64) / 2 ^ k % 2 ^ 8) turned) _ (rw (← len, ← c.from-2.ensures) c.min-self.ensures))

pub returns-clause-lost : goal.returns-clause-lost
returns-clause-lost c = λ lost. omega (arith, lost, c.min-len.ensures, c.min-self.ensures)
