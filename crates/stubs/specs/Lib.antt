pub mod Stubs
