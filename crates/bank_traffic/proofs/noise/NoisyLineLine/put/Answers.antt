use Rattle.std.specs.Option.{option_to_list}
use Rattle.bank_traffic.proofs.Passing.{goes_behind, passes_more}
use Rattle.bank_traffic.proofs.noise.NoisyLineLine.put.Goals as goal

-- src/noise.rt
pub invariant_of-self-2 : goal.invariant_of-self-2
invariant_of-self-2 g c =
    let self = c.args.self.now in record {
      is_behind = goes_behind self.first self.noise c.behind-self.result self.put c.note.new.self c.args.octet self.is_behind c.note.ensures c.behind-self.ensures;
      passes = passes_more self.first self.noise self.put c.note.new.self (g.L.Line.put_so_far self.line) (g.L.Line.put_so_far c.put_passed.new.line) (option_to_list c.pass.result) c.args.octet
          self.is_behind c.note.ensures self.passes c.in-Ok.ensures.ok.0 c.pass.ensures;
    }
