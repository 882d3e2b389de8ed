pub mod Judging
pub mod TimerEnds
