-- The laws of the table held as numbers.
pub mod Values
pub mod Numbers
pub mod Turns
pub mod Outcomes
pub mod Stores
pub mod Changes
pub mod Looks
pub mod Runs
