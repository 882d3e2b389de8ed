use Rattle.std.proofs.Common.{subst, sym}
use Rattle.run_text.specs.Running.{IsShown, IsTextOfEnds, showing}
use Rattle.run_text.proofs.Ends.{wrote_all, wrote_some}
use Rattle.run_text.proofs.Failing.{all_got_through}
use Rattle.run_text.proofs.running.write_text.Goals as goal

-- src/running.rt
pub returns-in-Ok-write_all-clause-text : goal.returns-in-Ok-write_all-clause-text
returns-in-Ok-write_all-clause-text g c =
    let through = all_got_through c.args.near.now c.args.far.now c.requires.none in
    wrote_all (IsTextOfEnds c.args.traffic.now (showing c.args.shown) c.args.near.now c.args.far.now) c.deref.result.now c.in-Ok.report.missing c.write_all.result _ _ c.in-Ok-write_all.is c.write_all.ensures.writes (record {
      no_failure = c.requires.none;
      near_got_through = through.0;
      far_got_through = through.1;
      missing_is = c.in-Ok.ensures.missing;
      text_is = subst (IsShown (showing c.args.shown) c.args.near.now c.args.far.now c.in-Ok.report.missing) (sym c.deref.ensures.value) c.in-Ok.ensures.text;
    })

pub returns-in-Ok-clause-text : goal.returns-in-Ok-clause-text
returns-in-Ok-clause-text g c =
    let through = all_got_through c.args.near.now c.args.far.now c.requires.none in
    wrote_some (IsTextOfEnds c.args.traffic.now (showing c.args.shown) c.args.near.now c.args.far.now) c.deref.result.now c.in-Ok.report.missing c.write_all.result _ _ c.write_all.ensures.writes (record {
      no_failure = c.requires.none;
      near_got_through = through.0;
      far_got_through = through.1;
      missing_is = c.in-Ok.ensures.missing;
      text_is = subst (IsShown (showing c.args.shown) c.args.near.now c.args.far.now c.in-Ok.report.missing) (sym c.deref.ensures.value) c.in-Ok.ensures.text;
    })
