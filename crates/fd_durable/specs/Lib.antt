pub mod Durable
pub mod Logs
