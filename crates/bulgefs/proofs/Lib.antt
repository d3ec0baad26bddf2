pub mod Bounds
pub mod Saves
pub mod Theorems
