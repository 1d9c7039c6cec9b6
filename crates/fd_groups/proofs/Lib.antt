pub mod GroupLaws
pub mod LabelKeys
pub mod Outcomes
pub mod RangeLaws
pub mod SlotLaws
pub mod SumLaws
