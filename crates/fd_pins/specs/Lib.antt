pub mod Pinned
pub mod Scans
