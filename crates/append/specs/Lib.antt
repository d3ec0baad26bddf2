pub mod Append
pub mod Pieces
pub mod Runs
