use Rattle.std.proofs.Common.{◌++◌, [], ◌∷◌}
use Rattle.l2_bits.proofs.FlagLemmas.{last_more, flag_there, flag_not_there}
use Rattle.l2_bits.specs.Deframing.{GoesOn}
use Rattle.l2_bits.proofs.DeframingLemmas.{since_on}
use Rattle.l2_bits.proofs.deframing.Deframer.step.Goals as goal

pub returns-then-self-eq-FLAG-clause-stands : goal.returns-then-self-eq-FLAG-clause-stands
returns-then-self-eq-FLAG-clause-stands c = λ past is.
    let bit = c.args.bit in
    let ends = last_more past bit c.args.self.now.last c.shifted_in-self.result is.last_bits c.shifted_in-self.ensures in
    record {
      last_bits = rw c.flag.ensures.last ends;
      line = c.flag.ensures.stands past bit (flag_there (past ++ bit ∷ []) c.shifted_in-self.result ends c.if-self-eq-FLAG.true) is.line;
    }

pub returns-then-self-eq-FLAG-clause-mark : goal.returns-then-self-eq-FLAG-clause-mark
returns-then-self-eq-FLAG-clause-mark c = λ past is.
    let bit = c.args.bit in
    let ends = last_more past bit c.args.self.now.last c.shifted_in-self.result is.last_bits c.shifted_in-self.ensures in
    c.flag.ensures.mark past bit (flag_there (past ++ bit ∷ []) c.shifted_in-self.result ends c.if-self-eq-FLAG.true) is.line

pub returns-clause-stands : goal.returns-clause-stands
returns-clause-stands c = λ past is.
    let bit = c.args.bit in
    let ends = last_more past bit c.args.self.now.last c.shifted_in-self.result is.last_bits c.shifted_in-self.ensures in
    let goes : GoesOn past is.line.since bit = record { is_since = is.line.is_since; no_flag = flag_not_there (past ++ bit ∷ []) c.shifted_in-self.result ends c.shifted_in-self.type_inv c.if-self-eq-FLAG.false } in
    record {
      last_bits = ends;
      line = record {
        since = is.line.since ++ bit ∷ [];
        is_since = since_on past is.line.since bit goes;
        has_content = c.keep.ensures past is.line.since is.last_bits goes is.line.has_content;
        keeps_count = c.wait.ensures.stands past is.line.since bit ends goes is.line.keeps_count;
      };
    }

pub returns-clause-mark : goal.returns-clause-mark
returns-clause-mark c = λ past is.
    let bit = c.args.bit in
    let ends = last_more past bit c.args.self.now.last c.shifted_in-self.result is.last_bits c.shifted_in-self.ensures in
    let goes : GoesOn past is.line.since bit = record { is_since = is.line.is_since; no_flag = flag_not_there (past ++ bit ∷ []) c.shifted_in-self.result ends c.shifted_in-self.type_inv c.if-self-eq-FLAG.false } in
    c.wait.ensures.mark past is.line.since bit _ goes is.line.keeps_count
