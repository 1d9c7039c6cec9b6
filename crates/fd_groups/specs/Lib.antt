pub mod Additions
pub mod DistinctItems
pub mod Groups
pub mod Slots
