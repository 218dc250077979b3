mod Answered
mod Changeable
mod Entered
pub mod Entries
mod FirstLines
pub mod Follows
mod Fronts
mod Led
mod Logs
mod Numbered
mod Read
mod Refused
mod Silent
mod TextFronts
