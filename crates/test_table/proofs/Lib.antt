pub mod SeatSteps
pub mod Replacements
pub mod PinnedParts
