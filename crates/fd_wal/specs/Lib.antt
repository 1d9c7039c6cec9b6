pub mod Frames
pub mod Gathering
pub mod Logs
pub mod Reading
pub mod Replays
pub mod Runs
