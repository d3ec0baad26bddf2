pub mod List
pub mod Runs
