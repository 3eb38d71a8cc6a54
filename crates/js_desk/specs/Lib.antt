pub mod Rows
pub mod Endings
pub mod Acts
pub mod Askers
