pub mod Showing
pub mod Crossing
