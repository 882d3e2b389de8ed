use Rattle.std.proofs.Common.{◌≡◌, take, map, string_bytes}
use Rattle.text_forms.specs.Showing.{plain}
use Rattle.text_forms.proofs.showing.show_octets.Given as goal

-- so many octets are shown
abbrev pub invariant-loop-octet : goal.invariant-loop-octet
invariant-loop-octet l = string_bytes l.part ≡ map plain (take l.octet-index l.octets)
