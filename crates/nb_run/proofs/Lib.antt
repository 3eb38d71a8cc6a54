pub mod Codes
pub mod Goings
pub mod Rounds
pub mod Saved
