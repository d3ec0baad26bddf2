-- The laws of marks.
pub mod Marks
pub mod Turns
pub mod Runs
