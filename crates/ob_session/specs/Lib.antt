pub mod Session
pub mod Links
pub mod Reaches
pub mod Cells
pub mod Laws
pub mod Rows
pub mod Loads
