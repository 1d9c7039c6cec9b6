pub mod Digits
pub mod Runs
pub mod Format
pub mod Refusals
pub mod Unpacker
pub mod Packer
