pub mod Contents
pub mod FieldIds
pub mod Footers
pub mod Layout
pub mod Lookups
pub mod Reader
pub mod Shapes
pub mod Tables
