pub mod LooseParts
pub mod RunRows
