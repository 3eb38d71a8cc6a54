pub mod Crossing
pub mod Answering
