use Rattle.term_laws.proofs.Heard.{joins, turns_give, units_heard, hear_each_other, damage_loses}
use Rattle.term_laws.proofs.laws.terminals_hear_each_other.Goals as goal

pub returns-clause-join : goal.returns-clause-join
returns-clause-join c = joins

pub returns-clause-marks : goal.returns-clause-marks
returns-clause-marks c = turns_give

pub returns-clause-units : goal.returns-clause-units
returns-clause-units c = units_heard

pub returns-clause-terminals : goal.returns-clause-terminals
returns-clause-terminals c = hear_each_other

pub returns-clause-damage : goal.returns-clause-damage
returns-clause-damage c = damage_loses
