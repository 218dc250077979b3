pub mod Asked
pub mod LastAnswer
pub mod Open
pub mod Requests
