pub mod EndStatus
pub mod SharedPages
pub mod ShownRun
