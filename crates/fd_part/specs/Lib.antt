pub mod Batches
pub mod Parts
pub mod Ranges
pub mod Sizes
