pub mod Rules
pub mod Looks
pub mod Rows
pub mod Walks
pub mod Refusals
pub mod Spelled
pub mod Texts
pub mod Borrowed
