pub mod Paths
pub mod Places
pub mod Openings
pub mod Shelves
pub mod Devices
pub mod Memory
pub mod MemoryShelves
