pub mod Headline
pub mod DumpAnswer
pub mod MakeText
pub mod Tallies
pub mod MakeLine
pub mod MakeAnswer
