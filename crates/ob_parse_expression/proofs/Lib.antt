pub mod Loop
pub mod Exact
pub mod OneToken
pub mod Operators
pub mod Separated
pub mod Entries
pub mod Expressions
pub mod Names
