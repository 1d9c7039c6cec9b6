pub mod Joining
pub mod BlockEnds
pub mod Images
pub mod LogRoom
pub mod LogSteps
pub mod Moving
pub mod Views
