pub mod Threads
pub mod Parsers
