pub mod Paths
pub mod Zeros
pub mod Follow
pub mod Readers
