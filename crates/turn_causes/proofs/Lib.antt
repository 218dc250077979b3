pub mod StepsCaused
pub mod TurnsCaused
pub mod VictimSeen
