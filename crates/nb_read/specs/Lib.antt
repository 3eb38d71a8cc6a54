pub mod Lent
pub mod Finds
pub mod Own
pub mod Puts
