pub mod Conditions
pub mod Faults
pub mod Frames
pub mod Ids
pub mod Profile
pub mod Sizes
pub mod Winners
