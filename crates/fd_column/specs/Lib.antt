pub mod Cells
pub mod LabelColumns
pub mod RowNumbers
pub mod Stacks
pub mod Tables
pub mod Texts
