pub mod Fault
pub mod Indexes
pub mod Messages
pub mod Raw
pub mod Shape
pub mod MessageShapes
