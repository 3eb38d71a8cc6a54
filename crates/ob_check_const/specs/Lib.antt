pub mod Folding
pub mod Constants
pub mod NamedTypes
