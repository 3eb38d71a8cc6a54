pub mod Kept
pub mod States
pub mod Reads
