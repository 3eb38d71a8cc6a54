pub mod Full
pub mod Watching
pub mod Boards
pub mod Hosting
pub mod Readings
pub mod Recorded
pub mod Lives
pub mod Reached
