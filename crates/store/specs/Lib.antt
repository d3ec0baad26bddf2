pub mod Settings
pub mod Put
pub mod Get
pub mod Change
pub mod Asked
pub mod Views
pub mod Claims
pub mod Walks
