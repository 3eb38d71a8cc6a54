pub mod Strings
pub mod Numbered
