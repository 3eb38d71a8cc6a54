pub mod Joining
pub mod Changing
pub mod Following
pub mod Putting
