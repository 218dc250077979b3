pub mod LastAnswers
pub mod LongerBody
pub mod OpenRuns
