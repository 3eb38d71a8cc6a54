pub mod Crossing
pub mod Homes
pub mod Ranges
pub mod Sending
pub mod Serving
pub mod Steps
pub mod Telling
