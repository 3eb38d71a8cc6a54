pub mod Channels
pub mod Answered
pub mod Served
