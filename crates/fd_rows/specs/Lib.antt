pub mod Body
pub mod Labels
pub mod Rows
pub mod Sizes
