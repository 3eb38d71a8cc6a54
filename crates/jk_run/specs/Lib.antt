pub mod Hand
pub mod Acts
pub mod Around
pub mod Supplied
pub mod Driver
