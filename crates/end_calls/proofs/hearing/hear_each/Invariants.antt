use Rattle.std.proofs.Common.{◌≡◌, ◌≤◌, length, take}
use Rattle.end_calls.specs.Hearing.{HasHeard, HearsAll}
use Rattle.end_calls.proofs.hearing.hear_each.Given as goal

-- the octets so far had their turns
abbrev pub invariant-loop-place : goal.invariant-loop-place
invariant-loop-place l = record {
  links : length l.end.bench.links ≡ length l.initial.end.bench.links;
  room : length l.put ≡ length l.initial.put;
  octets : l.heard.octets ≡ l.place;
  messages : l.heard.messages ≤ l.heard.octets;
  heard : HasHeard (HearsAll l.link (take l.place l.octets)) l.initial.put l.initial.end l.put l.heard l.end;
}
