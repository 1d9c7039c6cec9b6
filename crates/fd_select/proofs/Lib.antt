pub mod Basics
pub mod EndLemmas
pub mod PathLemmas
pub mod Meetings
pub mod Numbers
pub mod Parts
pub mod Places
pub mod TextFits
