pub mod FieldLaws
pub mod Pieces
