pub mod Roles
pub mod Parts
pub mod Said
pub mod Sending
pub mod Frames
pub mod Turns
pub mod Messages
pub mod Utf8
