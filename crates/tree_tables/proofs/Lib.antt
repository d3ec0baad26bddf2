pub mod Tree
pub mod Attributes
pub mod Settings
pub mod Moves
