pub mod Numbers
pub mod Transfer
pub mod Runs
