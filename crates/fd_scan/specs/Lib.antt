pub mod Aggregates
pub mod DistinctTexts
pub mod LabelNames
pub mod LabelledPlaces
pub mod LastSeries
pub mod Removals
pub mod RowPlaces
pub mod StackSlots
