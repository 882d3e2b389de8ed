use Rattle.std.proofs.Common.{◌≡◌}
use Rattle.term_bench.specs.Ends.{new_links}
use Rattle.term_bench.proofs.link.new_links.Given as goal

-- the links so far
abbrev pub invariant-loop-link : goal.invariant-loop-link
invariant-loop-link l = l.made.items ≡ new_links l.lengths l.link
