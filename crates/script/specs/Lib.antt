pub mod Script
pub mod Walks
pub mod Answers
