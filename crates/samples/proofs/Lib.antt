pub mod Rules
pub mod Samples
