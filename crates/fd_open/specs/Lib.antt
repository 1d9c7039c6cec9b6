pub mod Barriers
pub mod Causes
pub mod Counting
pub mod Opens
pub mod Shelving
