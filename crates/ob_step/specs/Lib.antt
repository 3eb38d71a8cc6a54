pub mod Written
pub mod States
pub mod Rooms
pub mod Needs
pub mod Rows
pub mod Steps
