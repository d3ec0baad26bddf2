pub mod Marks
pub mod UndoTo
pub mod Runs
pub mod Walks
