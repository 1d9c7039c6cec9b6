pub mod Braces
pub mod Machine
pub mod Moments
pub mod Outcomes
pub mod SelectorTexts
