-- What the proofs of the code share: the turns of its loops, and what is known where it has come.
pub mod Scanning
pub mod Marked
pub mod Saves
pub mod Restores
pub mod Starts
pub mod Undoing
pub mod Changes
