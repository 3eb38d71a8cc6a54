pub mod Book
pub mod Readable
pub mod Steps
pub mod State
