pub mod Tickets
pub mod Region
pub mod Pool
pub mod Loan
pub mod PageBuf
