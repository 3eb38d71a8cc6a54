pub mod Boards
pub mod Recording
pub mod Told
pub mod Readings
pub mod Hosting
pub mod Watching
pub mod Events
pub mod Lives
