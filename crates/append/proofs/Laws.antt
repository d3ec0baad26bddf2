-- The laws of append: its exits, runs with pieces, and that pieces are one write of the joined bytes.
pub mod Turns
pub mod Runs
pub mod Grows
pub mod Writes
pub mod Ends
pub mod Twice
pub mod Pieces
