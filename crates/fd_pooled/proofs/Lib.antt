pub mod Changes
pub mod Compacting
pub mod Passing
