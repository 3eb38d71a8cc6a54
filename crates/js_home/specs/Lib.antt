pub mod Places
pub mod Served
pub mod Sets
pub mod Homes
