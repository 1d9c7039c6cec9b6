pub mod Passes
pub mod PoolSteps
