pub mod RowSteps
pub mod Refusals
pub mod LabelSteps
pub mod BatchLaws
