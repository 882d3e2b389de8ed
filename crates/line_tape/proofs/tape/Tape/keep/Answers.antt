use Rattle.std.proofs.Common.{rules}
use Rattle.line_tape.proofs.Kept.{kept_more}
use Rattle.line_tape.proofs.tape.Tape.keep.Goals as goal

-- src/tape.rt
pub returns-else-is_err : goal.returns-else-is_err
returns-else-is_err c = kept_more c.args.self.now c.in-Some.octets.items c.push.new.self.items c.args.octet (search rules) (search rules)
