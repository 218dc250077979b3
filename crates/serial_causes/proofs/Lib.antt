pub mod Entries
pub mod Lasts
pub mod MovesCaused
pub mod RundownCaused
pub mod SerialCaused
pub mod Taken
