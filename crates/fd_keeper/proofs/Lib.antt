pub mod Appending
pub mod Recovery
pub mod Growth
pub mod Adding
pub mod RunSteps
pub mod Rotations
pub mod RecoveryLaws
