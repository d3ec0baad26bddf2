-- What the proofs of the code share: the turns of its loops, and what is known where it has come.
pub mod Scripts
pub mod Encoding
pub mod Making
pub mod Running
pub mod Replaying
