pub mod WrittenTypes
pub mod Declarations
pub mod Headings
pub mod Interfaces
