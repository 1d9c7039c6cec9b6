pub mod Values
pub mod View
pub mod Format
pub mod Reader
