pub mod Codes
pub mod Headers
pub mod Picks
pub mod Places
pub mod Texts
pub mod Trees
