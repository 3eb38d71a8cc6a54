pub mod Exact
pub mod Index
pub mod Places
