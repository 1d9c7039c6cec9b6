pub mod Chunks
pub mod Columns
pub mod Files
pub mod Frame
