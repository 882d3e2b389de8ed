use Rattle.term_bench.proofs.TalkLemmas.{talk_is_legal, turn_is_of_terminal}
use Rattle.term_bench.proofs.laws.turns_are_steps_of_the_set.Goals as goal

pub returns-clause-talks : goal.returns-clause-talks
returns-clause-talks c = talk_is_legal

pub returns-clause-turns : goal.returns-clause-turns
returns-clause-turns c = turn_is_of_terminal
