-- THE LAWS of the plain check.
pub mod Reasons
pub mod Chains
pub mod Before
pub mod Holders
pub mod Tours
pub mod Sums
