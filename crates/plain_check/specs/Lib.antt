pub mod Plain
pub mod Walks
