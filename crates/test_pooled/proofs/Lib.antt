pub mod Passes
pub mod PinSteps
