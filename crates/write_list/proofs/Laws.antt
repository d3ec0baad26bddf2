-- The laws of lists of writes.
pub mod Items
pub mod Turns
pub mod Runs
