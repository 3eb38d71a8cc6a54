pub mod Places
pub mod Faults
pub mod Runs
pub mod Looking
pub mod Reaching
pub mod Exchange
pub mod Seen
pub mod Modules
