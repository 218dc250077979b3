pub mod Stand
pub mod NextLine
pub mod Log
