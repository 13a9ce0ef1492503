pub mod ScheduleWords
pub mod RoundSteps
pub mod PaddedEnd
pub mod BlockSteps
pub mod WholeMessage
pub mod TakenParts
