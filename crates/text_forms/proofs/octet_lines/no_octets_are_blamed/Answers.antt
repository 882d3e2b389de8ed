use Rattle.text_forms.proofs.OctetLines.{no_octets_blamed}
use Rattle.text_forms.proofs.octet_lines.no_octets_are_blamed.Goals as goal

pub returns : goal.returns
returns c = no_octets_blamed
