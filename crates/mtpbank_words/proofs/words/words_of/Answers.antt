use Rattle.std.proofs.Common.{map, subst}
use Rattle.mtpbank_words.specs.declared.words.WordsFault.{WordsFault}
use Rattle.mtpbank_words.specs.CommandLine.{Refuses}
use Rattle.mtpbank_words.proofs.words.words_of.Goals as goal

-- src/words.rt
pub returns-in-Err-Words-clause-refused : goal.returns-in-Err-Words-clause-refused
returns-in-Err-Words-clause-refused g c =
    c.with_advice.ensures.refused (subst (λ (fault : WordsFault). Refuses fault (map g.S.AsStr.text c.args.words.now)) c.in-Err-Words.field-0-is c.in-Err-Words.ensures.refused)
