use Rattle.std.proofs.Common.{◌≡◌, ◌≤◌, ◌+◌, List, ◌++◌, length, take}
use Rattle.std.specs.Vec.{vec_len, vec_capacity}
use Rattle.term_bench.specs.Waiting.{HearsAll}
use Rattle.term_bench.specs.declared.turn.Turn.{Turn}
use Rattle.term_bench.proofs.bench.Bench.hear_octets.Given as goal

-- the turns so far, and room for the others
abbrev pub invariant-loop-octet : goal.invariant-loop-octet
invariant-loop-octet l = record {
  links : length l.self.links ≡ length l.initial.self.links;
  room : vec_len l.turns + length l.octets ≤ vec_capacity l.turns + l.octet-index;
  hears : (made : List Turn) × (l.turns.items ≡ l.initial.turns.items ++ made)
      × HearsAll l.link (take l.octet-index l.octets) l.initial.self made l.self;
}
