pub mod LockLimits
pub mod Looked
pub mod MayMove
pub mod RangeSteps
pub mod SectionsSeen
pub mod TouchedRows
