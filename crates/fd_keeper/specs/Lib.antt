pub mod Blocks
pub mod Keepers
pub mod FaultTexts
