pub mod Draws
pub mod Fields
pub mod Profile
pub mod Body
