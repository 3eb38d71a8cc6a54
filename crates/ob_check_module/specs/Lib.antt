pub mod Procedures
pub mod CheckedTree
pub mod Modules
pub mod Codes
