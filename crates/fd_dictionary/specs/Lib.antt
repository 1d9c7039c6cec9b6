pub mod Dictionaries
pub mod Pieces
