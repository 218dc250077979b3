pub mod Verdict
pub mod Laws
pub mod Underway
pub mod RundownLaws
