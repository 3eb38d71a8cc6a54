pub mod Steps
pub mod Numbers
pub mod Floats
pub mod Apart
pub mod Plain
