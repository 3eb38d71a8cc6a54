pub mod Writing
pub mod Reading
pub mod Runs
pub mod Buffer
