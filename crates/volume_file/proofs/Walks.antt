pub mod Turns
pub mod Logging
pub mod Places
