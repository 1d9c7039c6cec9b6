pub mod BodySteps
pub mod EachSteps
pub mod TextLemmas
pub mod TokenSteps
