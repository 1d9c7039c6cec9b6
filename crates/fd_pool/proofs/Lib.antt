pub mod DrawnRows
pub mod Gathered
pub mod LooseRuns
pub mod Replaced
pub mod SweptLanes
pub mod TurnSteps
