pub mod Said
pub mod Machines
pub mod Finished
pub mod Loaded
pub mod Called
pub mod Commanded
