mod Bounds
mod Digits
mod Lines
mod Pieces
