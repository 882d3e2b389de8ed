use Rattle.std.proofs.Common.{arith, subst, map, drop, take, length, ◌-◌, List, String, Global, string_bytes, IfOk, IfErr, ◌≡◌}
use Rattle.std.proofs.lemmas.Grind.{common_steps}
use Rattle.std.proofs.lemmas.List.{take_all}
use Rattle.mtpbank_words.specs.CommandLine.{IsAsked, Refuses, SaysAll}
use Rattle.mtpbank_words.proofs.words.asked_by.Goals as goal

-- all arguments from the second on are those behind the first
rest : (args : List (String Global)) → take (length args - 1) (drop 1 args) ≡ drop 1 args
rest args = take_all (length args - 1) (drop 1 args) (grind (arith, common_steps))

-- src/words.rt
pub returns-clause-asked : goal.returns-clause-asked
returns-clause-asked c =
    subst (λ (words : List (String Global)). IfOk c.words_of-2.result (λ found. IsAsked found (map string_bytes words)))
    (rest c.args.args.now) c.words_of-2.ensures.asked

pub returns-clause-refused : goal.returns-clause-refused
returns-clause-refused c =
    subst (λ (words : List (String Global)). IfErr c.words_of-2.result (λ fault. Refuses fault (map string_bytes words)))
    (rest c.args.args.now) c.words_of-2.ensures.refused

pub returns-clause-advised : goal.returns-clause-advised
returns-clause-advised c =
    subst (λ (words : List (String Global)). IfErr c.words_of-2.result (λ fault. SaysAll fault (map string_bytes words)))
    (rest c.args.args.now) c.words_of-2.ensures.advised
