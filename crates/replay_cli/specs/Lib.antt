pub mod Commands
pub mod CommandRun
pub mod DumpShown
