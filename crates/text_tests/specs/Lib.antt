pub mod TestRun
