pub mod Alone
pub mod Expressions
