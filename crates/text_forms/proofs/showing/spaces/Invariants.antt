use Rattle.std.proofs.Common.{◌≡◌, replicate, string_bytes}
use Rattle.text_forms.proofs.showing.spaces.Given as goal

abbrev pub invariant-loop : goal.invariant-loop
invariant-loop l = string_bytes l.line ≡ replicate l.counter 32
