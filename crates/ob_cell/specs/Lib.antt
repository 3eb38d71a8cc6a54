pub mod Texts
pub mod Planned
pub mod Codes
pub mod Oberon
