pub mod Calls
pub mod Compactions
pub mod Pooling
pub mod Steps
pub mod StoreLaws
