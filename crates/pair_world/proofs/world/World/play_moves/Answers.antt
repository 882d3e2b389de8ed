use Rattle.pair_rises.proofs.Counted.{every_missed_life}
use Rattle.pair_rises.proofs.Diverting.{every_rising_run_acks, every_rising_run_diverts, every_rising_run_tells}
use Rattle.pair_rises.proofs.Handing.{hands_out, hands_out_a_part, hands_out_all, idle_hands_out, idle_accounts}
use Rattle.pair_rises.proofs.Kept.{every_honest_run}
use Rattle.pair_rises.proofs.Runs.{every_rising_run, every_rising_run_in_part}
use Rattle.pair_world.proofs.Moving.{leads, fails}
use Rattle.pair_world.proofs.world.World.play_moves.Goals as goal

pub returns-in_err-world-clause-streams : goal.returns-in_err-world-clause-streams
returns-in_err-world-clause-streams o c = every_rising_run _ _ _

pub returns-in-Ok-clause-streams : goal.returns-in-Ok-clause-streams
returns-in-Ok-clause-streams o c = every_rising_run _ _ _

pub returns-in-Err-clause-streams : goal.returns-in-Err-clause-streams
returns-in-Err-clause-streams o c = every_rising_run _ _ _

pub returns-in_err-world-clause-parts : goal.returns-in_err-world-clause-parts
returns-in_err-world-clause-parts o c = every_rising_run_in_part _ _ _

pub returns-in-Ok-clause-parts : goal.returns-in-Ok-clause-parts
returns-in-Ok-clause-parts o c = every_rising_run_in_part _ _ _

pub returns-in-Err-clause-parts : goal.returns-in-Err-clause-parts
returns-in-Err-clause-parts o c = every_rising_run_in_part _ _ _

pub returns-in_err-world-clause-first_taken : goal.returns-in_err-world-clause-first_taken
returns-in_err-world-clause-first_taken o c = hands_out _ _ _

pub returns-in-Ok-clause-first_taken : goal.returns-in-Ok-clause-first_taken
returns-in-Ok-clause-first_taken o c = hands_out _ _ _

pub returns-in-Err-clause-first_taken : goal.returns-in-Err-clause-first_taken
returns-in-Err-clause-first_taken o c = hands_out _ _ _

pub returns-in_err-world-clause-part_taken : goal.returns-in_err-world-clause-part_taken
returns-in_err-world-clause-part_taken o c = hands_out_a_part _ _ _

pub returns-in-Ok-clause-part_taken : goal.returns-in-Ok-clause-part_taken
returns-in-Ok-clause-part_taken o c = hands_out_a_part _ _ _

pub returns-in-Err-clause-part_taken : goal.returns-in-Err-clause-part_taken
returns-in-Err-clause-part_taken o c = hands_out_a_part _ _ _

pub returns-in_err-world-clause-counted : goal.returns-in_err-world-clause-counted
returns-in_err-world-clause-counted o c = λ emergencies. every_missed_life emergencies _ _ _

pub returns-in-Ok-clause-counted : goal.returns-in-Ok-clause-counted
returns-in-Ok-clause-counted o c = λ emergencies. every_missed_life emergencies _ _ _

pub returns-in-Err-clause-counted : goal.returns-in-Err-clause-counted
returns-in-Err-clause-counted o c = λ emergencies. every_missed_life emergencies _ _ _

pub returns-in_err-world-clause-keeps : goal.returns-in_err-world-clause-keeps
returns-in_err-world-clause-keeps o c = every_honest_run _ _ _

pub returns-in-Ok-clause-keeps : goal.returns-in-Ok-clause-keeps
returns-in-Ok-clause-keeps o c = every_honest_run _ _ _

pub returns-in-Err-clause-keeps : goal.returns-in-Err-clause-keeps
returns-in-Err-clause-keeps o c = every_honest_run _ _ _

pub returns-in_err-world-clause-handed : goal.returns-in_err-world-clause-handed
returns-in_err-world-clause-handed o c = hands_out_all _ _ _

pub returns-in-Ok-clause-handed : goal.returns-in-Ok-clause-handed
returns-in-Ok-clause-handed o c = hands_out_all _ _ _

pub returns-in-Err-clause-handed : goal.returns-in-Err-clause-handed
returns-in-Err-clause-handed o c = hands_out_all _ _ _

pub returns-in_err-world-clause-idle_handed : goal.returns-in_err-world-clause-idle_handed
returns-in_err-world-clause-idle_handed o c = idle_hands_out _ _ _

pub returns-in-Ok-clause-idle_handed : goal.returns-in-Ok-clause-idle_handed
returns-in-Ok-clause-idle_handed o c = idle_hands_out _ _ _

pub returns-in-Err-clause-idle_handed : goal.returns-in-Err-clause-idle_handed
returns-in-Err-clause-idle_handed o c = idle_hands_out _ _ _

pub returns-in_err-world-clause-idle_accounted : goal.returns-in_err-world-clause-idle_accounted
returns-in_err-world-clause-idle_accounted o c = idle_accounts _ _ _

pub returns-in-Ok-clause-idle_accounted : goal.returns-in-Ok-clause-idle_accounted
returns-in-Ok-clause-idle_accounted o c = idle_accounts _ _ _

pub returns-in-Err-clause-idle_accounted : goal.returns-in-Err-clause-idle_accounted
returns-in-Err-clause-idle_accounted o c = idle_accounts _ _ _

pub returns-in_err-world-clause-diverts : goal.returns-in_err-world-clause-diverts
returns-in_err-world-clause-diverts o c = every_rising_run_diverts _ _ _

pub returns-in-Ok-clause-diverts : goal.returns-in-Ok-clause-diverts
returns-in-Ok-clause-diverts o c = every_rising_run_diverts _ _ _

pub returns-in-Err-clause-diverts : goal.returns-in-Err-clause-diverts
returns-in-Err-clause-diverts o c = every_rising_run_diverts _ _ _

pub returns-in_err-world-clause-numbers : goal.returns-in_err-world-clause-numbers
returns-in_err-world-clause-numbers o c = λ emergencies. every_rising_run_tells emergencies _ _ _

pub returns-in-Ok-clause-numbers : goal.returns-in-Ok-clause-numbers
returns-in-Ok-clause-numbers o c = λ emergencies. every_rising_run_tells emergencies _ _ _

pub returns-in-Err-clause-numbers : goal.returns-in-Err-clause-numbers
returns-in-Err-clause-numbers o c = λ emergencies. every_rising_run_tells emergencies _ _ _

pub returns-in_err-world-clause-acks : goal.returns-in_err-world-clause-acks
returns-in_err-world-clause-acks o c = λ emergencies. every_rising_run_acks emergencies _ _ _

pub returns-in-Ok-clause-acks : goal.returns-in-Ok-clause-acks
returns-in-Ok-clause-acks o c = λ emergencies. every_rising_run_acks emergencies _ _ _

pub returns-in-Err-clause-acks : goal.returns-in-Err-clause-acks
returns-in-Err-clause-acks o c = λ emergencies. every_rising_run_acks emergencies _ _ _

pub returns-in-Ok-clause-world : goal.returns-in-Ok-clause-world
returns-in-Ok-clause-world o c = leads _ _ _ _ c.in_ok-world.ensures _ c.in-Ok.ensures

pub returns-in-Err-clause-world : goal.returns-in-Err-clause-world
returns-in-Err-clause-world o c = fails _ _ _ _ c.in_ok-world.ensures c.in-Err.fault c.in-Err.ensures
