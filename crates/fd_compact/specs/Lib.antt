pub mod Compactions
pub mod Runs
