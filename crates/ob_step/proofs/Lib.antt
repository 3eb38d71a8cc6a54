pub mod Rows
pub mod TextRows
pub mod Stacks
pub mod Sound
pub mod Steps
pub mod Turns
pub mod Calls
