pub mod Counts
pub mod Digits
pub mod Room
pub mod Texts
