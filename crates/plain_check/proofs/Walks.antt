-- What ties the code to the definitions: a clause for each way through the code.
pub mod Tests
pub mod Chains
pub mod Slots
pub mod Stage4
pub mod Meets
pub mod Names
pub mod Stage5
pub mod Tallies
pub mod Tours
pub mod Stages
