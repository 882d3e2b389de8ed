use Rattle.std.proofs.Common.{rules, refl, ◌∙◌, ◌≡◌, [], Some, unwrap_or}
use Rattle.text_forms.specs.Places.{octets, some_octets}
use Rattle.text_forms.proofs.LastWord.{last_behind, last_read, octets_are_one}
use Rattle.text_forms.proofs.words.Words.octets.Goals as goal

pub returns-in-Ok-Some-clause-value : goal.returns-in-Ok-Some-clause-value
returns-in-Ok-Some-clause-value c =
    let read : some_octets (unwrap_or c.args.self.now.left []) ≡ Some c.from_vec.result = search rules in
    last_read octets octets_are_one refl c.args.self.now c.from_vec.result read

pub returns-in-Ok-Some-clause-behind : goal.returns-in-Ok-Some-clause-behind
returns-in-Ok-Some-clause-behind c =
    let read : some_octets (unwrap_or c.args.self.now.left []) ≡ Some c.from_vec.result = search rules in
    c.end_line.ensures ∙ last_behind octets octets_are_one refl c.args.self.now c.from_vec.result read
