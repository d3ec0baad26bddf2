pub mod Lists
pub mod Pieces
pub mod Numbers
pub mod Salvage
pub mod Script
pub mod Marks
