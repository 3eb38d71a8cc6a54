pub mod Crossing
pub mod Ending
