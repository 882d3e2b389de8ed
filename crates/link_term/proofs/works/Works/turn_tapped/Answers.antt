use Rattle.link_term.proofs.works.Works.turn_tapped.Goals as goal

pub returns-in-Ok-clause-turns : goal.returns-in-Ok-clause-turns
returns-in-Ok-clause-turns g c =
    let turn = c.in-Ok.ensures in rw (← c.self.view_is) (record {
      went = (c.if-self.false, turn.turns);
      breaks = λ _. tt;
      failed = λ failed. let no = c.if-self.false in absurd cc;
      fails = tt;
      goes_on = c.if-self.false;
      at = turn.at;
      number = turn.number;
      door = turn.door;
      same = turn.same;
    })
