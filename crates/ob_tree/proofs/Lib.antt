pub mod Tokens
pub mod FirstTokens
pub mod Crossing
