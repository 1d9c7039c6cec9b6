pub mod Lines
pub mod Numbers
pub mod Plans
pub mod Rules
