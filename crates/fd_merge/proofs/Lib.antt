pub mod MergeOrder
pub mod Remainders
