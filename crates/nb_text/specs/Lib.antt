pub mod Tokens
pub mod Joined
