pub mod Faults
pub mod AtReport
pub mod Ended
pub mod FewRefusals
