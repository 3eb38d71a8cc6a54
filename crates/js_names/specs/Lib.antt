pub mod Untitled
pub mod Moves
