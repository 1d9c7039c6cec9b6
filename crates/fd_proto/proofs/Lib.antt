pub mod IndexLists
pub mod Pushes
