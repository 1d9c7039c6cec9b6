pub mod Json
pub mod Shape
pub mod Body
pub mod Answers
pub mod Rows
pub mod Faults
pub mod Tokens
