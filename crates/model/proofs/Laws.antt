-- The proofs behind Theorems.
pub mod Allows
pub mod Nodes
pub mod Models
pub mod Steps
pub mod Looks
pub mod Exists
pub mod Trees
pub mod Parents
pub mod Refusals
pub mod Folders
pub mod Counts
pub mod Entries
pub mod Runs
pub mod Calls
pub mod Roots
