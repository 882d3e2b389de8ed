use Rattle.pair_model.proofs.Runs.{every_honest_run as every_honest_run_keeps_links}
use Rattle.pair_changeover.proofs.Runs.{every_sound_run as every_sound_run_diverts_the_rest}
use Rattle.pair_streams.proofs.Runs.{every_sound_run as every_sound_run_keeps_streams, every_quiet_run as every_quiet_run_keeps_order}
use Rattle.pair_streams.proofs.Counting.{every_quiet_run_counts}
use Rattle.pair_streams.proofs.Telling.{every_quiet_run_tells}
use Rattle.pair_world.proofs.Playing.{leads, fails}
use Rattle.pair_world.proofs.world.World.play.Goals as goal

pub returns-in_err-world-clause-keeps : goal.returns-in_err-world-clause-keeps
returns-in_err-world-clause-keeps o c = every_honest_run_keeps_links _ _ _

pub returns-in-Ok-clause-keeps : goal.returns-in-Ok-clause-keeps
returns-in-Ok-clause-keeps o c = every_honest_run_keeps_links _ _ _

pub returns-in-Err-clause-keeps : goal.returns-in-Err-clause-keeps
returns-in-Err-clause-keeps o c = every_honest_run_keeps_links _ _ _

pub returns-in_err-world-clause-diverts : goal.returns-in_err-world-clause-diverts
returns-in_err-world-clause-diverts o c = every_sound_run_diverts_the_rest _ _ _

pub returns-in-Ok-clause-diverts : goal.returns-in-Ok-clause-diverts
returns-in-Ok-clause-diverts o c = every_sound_run_diverts_the_rest _ _ _

pub returns-in-Err-clause-diverts : goal.returns-in-Err-clause-diverts
returns-in-Err-clause-diverts o c = every_sound_run_diverts_the_rest _ _ _

pub returns-in_err-world-clause-streams : goal.returns-in_err-world-clause-streams
returns-in_err-world-clause-streams o c = every_sound_run_keeps_streams _ _ _

pub returns-in-Ok-clause-streams : goal.returns-in-Ok-clause-streams
returns-in-Ok-clause-streams o c = every_sound_run_keeps_streams _ _ _

pub returns-in-Err-clause-streams : goal.returns-in-Err-clause-streams
returns-in-Err-clause-streams o c = every_sound_run_keeps_streams _ _ _

pub returns-in_err-world-clause-parts : goal.returns-in_err-world-clause-parts
returns-in_err-world-clause-parts o c = every_quiet_run_keeps_order _ _ _

pub returns-in-Ok-clause-parts : goal.returns-in-Ok-clause-parts
returns-in-Ok-clause-parts o c = every_quiet_run_keeps_order _ _ _

pub returns-in-Err-clause-parts : goal.returns-in-Err-clause-parts
returns-in-Err-clause-parts o c = every_quiet_run_keeps_order _ _ _

pub returns-in_err-world-clause-numbers : goal.returns-in_err-world-clause-numbers
returns-in_err-world-clause-numbers o c = every_quiet_run_tells _ _ _

pub returns-in-Ok-clause-numbers : goal.returns-in-Ok-clause-numbers
returns-in-Ok-clause-numbers o c = every_quiet_run_tells _ _ _

pub returns-in-Err-clause-numbers : goal.returns-in-Err-clause-numbers
returns-in-Err-clause-numbers o c = every_quiet_run_tells _ _ _

pub returns-in_err-world-clause-acks : goal.returns-in_err-world-clause-acks
returns-in_err-world-clause-acks o c = every_quiet_run_counts _ _ _

pub returns-in-Ok-clause-acks : goal.returns-in-Ok-clause-acks
returns-in-Ok-clause-acks o c = every_quiet_run_counts _ _ _

pub returns-in-Err-clause-acks : goal.returns-in-Err-clause-acks
returns-in-Err-clause-acks o c = every_quiet_run_counts _ _ _

pub returns-in-Ok-clause-world : goal.returns-in-Ok-clause-world
returns-in-Ok-clause-world o c = leads _ _ _ _ c.in_ok-world.ensures _ c.in-Ok.ensures

pub returns-in-Err-clause-world : goal.returns-in-Err-clause-world
returns-in-Err-clause-world o c = fails _ _ _ _ c.in_ok-world.ensures c.in-Err.fault c.in-Err.ensures
