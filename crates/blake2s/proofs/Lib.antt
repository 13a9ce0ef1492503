pub mod ScheduleTable
pub mod RoundSteps
pub mod BlockSteps
pub mod TakenParts
