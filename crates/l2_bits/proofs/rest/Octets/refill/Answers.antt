use Rattle.std.proofs.Common.{◌≡◌, ℕ, List, ◌-◌, length, take, drop, arith}
use Rattle.std.proofs.lemmas.Grind.{common_steps}
use Rattle.l2_bits.proofs.ByteLemmas.{nothing_next, one_next, seven_next}
use Rattle.l2_bits.proofs.rest.Octets.refill.Goals as goal

-- what is behind the first few of a slice
behind : (k : ℕ) (octets : List ℕ) → take (length octets - k) (drop k octets) ≡ drop k octets
behind k octets = grind (arith, common_steps)

pub returns-in-empty-clause-none : goal.returns-in-empty-clause-none
returns-in-empty-clause-none c = λ _. nothing_next c.args.self.now.first.left c.args.self.now.first.bits c.args.self.now.others.now c.requires c.in-empty.len_below

pub returns-in-len1-up-clause-same : goal.returns-in-len1-up-clause-same
returns-in-len1-up-clause-same c =
    let octets = c.args.self.now.others.now in
    rw (c.new-self.ensures, behind 1 octets) (one_next c.args.self.now.first.left c.args.self.now.first.bits 0 octets c.requires c.in-len1-up.len_at_least)

pub returns-in-len7-up-clause-same : goal.returns-in-len7-up-clause-same
returns-in-len7-up-clause-same c =
    let octets = c.args.self.now.others.now in
    rw (behind 7 octets) (seven_next c.args.self.now.first.left c.args.self.now.first.bits 0 octets _ c.requires c.in-len7-up.len_at_least c.seven-self.ensures)
