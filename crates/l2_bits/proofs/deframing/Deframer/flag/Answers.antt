use Rattle.std.proofs.Common.{◌++◌, [], ◌∷◌, take, arith}
use Rattle.std.proofs.lemmas.Bool.Decides.{nat_tests}
use Rattle.l2_bits.specs.Contents.{EndsGood}
use Rattle.l2_bits.proofs.FlagLemmas.{since_flag}
use Rattle.l2_bits.proofs.DeframingLemmas.{counted_more, good_here, no_good, aligned_here, good_aligns, empty_mark, bad_mark, content_none}
use Rattle.l2_bits.proofs.deframing.Deframer.flag.Goals as goal

pub returns-in-Some-clause-stands : goal.returns-in-Some-clause-stands
returns-in-Some-clause-stands c = λ past bit ends line.
    let found = rw c.in-Some.is at (c.closed-unit.ensures.good line.has_content.bits line.has_content.holds) in
    let lost = rw c.in-Some.is at c.closed-unit.ensures.lost in
    let unit : EndsGood past bit (take c.in-Some.octets c.args.self.now.content.octets) =
    good_here past line.since bit line.is_since ends c.args.self.now.content (take c.in-Some.octets c.args.self.now.content.octets) line.has_content lost (found lost) in
    record {
      since = [];
      is_since = since_flag (past ++ bit ∷ []) ends;
      has_content = content_none c.restart.new.self (c.restart.ensures.empty line.has_content.bits line.has_content.holds) c.restart.ensures.none;
      keeps_count = good_aligns past line.since bit line.is_since ends (take c.in-Some.octets c.args.self.now.content.octets) unit;
    }

pub returns-in-Some-clause-mark : goal.returns-in-Some-clause-mark
returns-in-Some-clause-mark c = λ past bit ends line.
    let found = rw c.in-Some.is at (c.closed-unit.ensures.good line.has_content.bits line.has_content.holds) in
    let lost = rw c.in-Some.is at c.closed-unit.ensures.lost in
    let unit : EndsGood past bit (take c.in-Some.octets c.args.self.now.content.octets) =
    good_here past line.since bit line.is_since ends c.args.self.now.content (take c.in-Some.octets c.args.self.now.content.octets) line.has_content lost (found lost) in
    rw c.restart.ensures.octets unit

pub returns-then-self-clause-stands : goal.returns-then-self-clause-stands
returns-then-self-clause-stands c = λ past bit ends line.
    record {
      since = [];
      is_since = since_flag (past ++ bit ∷ []) ends;
      has_content = content_none c.restart.new.self (c.restart.ensures.empty line.has_content.bits line.has_content.holds) c.restart.ensures.none;
      keeps_count = rw c.if-self.true (counted_more past line.since [] bit c.args.self.now.room c.count.new.room c.count.result (rw c.if-self.true at line.keeps_count) (no_good past line.since bit line.is_since ends c.args.self.now.content line.has_content (rw c.in_default.is at (c.closed-unit.ensures.none line.has_content.bits line.has_content.holds))) c.count.ensures.more c.count.ensures.whole).0;
    }

pub returns-then-self-clause-mark : goal.returns-then-self-clause-mark
returns-then-self-clause-mark c = λ past bit ends line.
    (counted_more past line.since [] bit c.args.self.now.room c.count.new.room c.count.result (rw c.if-self.true at line.keeps_count) (no_good past line.since bit line.is_since ends c.args.self.now.content line.has_content (rw c.in_default.is at (c.closed-unit.ensures.none line.has_content.bits line.has_content.holds))) c.count.ensures.more c.count.ensures.whole).1 _

pub returns-then-empty-clause-stands : goal.returns-then-empty-clause-stands
returns-then-empty-clause-stands c = λ past bit ends line.
    record {
      since = [];
      is_since = since_flag (past ++ bit ∷ []) ends;
      has_content = content_none c.restart.new.self (c.restart.ensures.empty line.has_content.bits line.has_content.holds) c.restart.ensures.none;
      keeps_count = rw c.if-self.false (aligned_here past line.since bit line.is_since ends c.args.self.now.room (rw c.if-self.false at line.keeps_count));
    }

pub returns-else-empty-clause-stands : goal.returns-else-empty-clause-stands
returns-else-empty-clause-stands c = λ past bit ends line.
    record {
      since = [];
      is_since = since_flag (past ++ bit ∷ []) ends;
      has_content = content_none c.restart.new.self (c.restart.ensures.empty line.has_content.bits line.has_content.holds) c.restart.ensures.none;
      keeps_count = rw c.if-self.false (aligned_here past line.since bit line.is_since ends c.args.self.now.room (rw c.if-self.false at line.keeps_count));
    }

pub returns-then-empty-clause-mark : goal.returns-then-empty-clause-mark
returns-then-empty-clause-mark c = λ past bit ends line.
    empty_mark past line.since bit line.is_since ends c.args.self.now.room (rw c.if-self.false at line.keeps_count) (no_good past line.since bit line.is_since ends c.args.self.now.content line.has_content (rw c.in_default.is at (c.closed-unit.ensures.none line.has_content.bits line.has_content.holds))) (grind (arith, nat_tests))

pub returns-else-empty-clause-mark : goal.returns-else-empty-clause-mark
returns-else-empty-clause-mark c = λ past bit ends line.
    bad_mark past line.since bit line.is_since ends c.args.self.now.room (rw c.if-self.false at line.keeps_count) (no_good past line.since bit line.is_since ends c.args.self.now.content line.has_content (rw c.in_default.is at (c.closed-unit.ensures.none line.has_content.bits line.has_content.holds))) (grind (arith, nat_tests))
