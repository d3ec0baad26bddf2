-- The laws of the store.
pub mod Form
pub mod Added
pub mod Whole
pub mod Serials
pub mod Addresses
pub mod Put
pub mod Sound
pub mod Framed
pub mod Blank
pub mod Orders
pub mod Shown
pub mod Gets
