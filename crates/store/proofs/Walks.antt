-- What ties the code to the rules.
pub mod Records
pub mod Zeros
pub mod Rooms
pub mod Rewriting
pub mod Serials
pub mod Refusals
pub mod Puts
pub mod Firsts
pub mod Prepares
pub mod Gets
