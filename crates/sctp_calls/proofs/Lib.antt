mod RefusalNumbers
pub mod AbstractRuns
pub mod AbstractSteps
