pub mod Acting
pub mod Giving
pub mod Around
pub mod Driving
pub mod Rounds
