pub mod Turns
pub mod Claims
pub mod Slots
pub mod Root
pub mod Table
pub mod Refusals
