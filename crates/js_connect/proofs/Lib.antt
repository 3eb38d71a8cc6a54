pub mod Visits
pub mod Channels
