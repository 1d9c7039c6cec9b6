pub mod Columns
pub mod Dictionaries
pub mod Pages
pub mod Reader
