pub mod SeatCarriers
pub mod BodyRuns
pub mod AskedOnce
pub mod RunsEnd
pub mod FewRefusals
pub mod RunsFinish
