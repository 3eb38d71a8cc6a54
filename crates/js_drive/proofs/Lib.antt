pub mod Threads
pub mod Crossing
