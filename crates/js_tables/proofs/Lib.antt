pub mod Crossing
pub mod Giving
pub mod Dates
pub mod SessionForms
pub mod Empty
pub mod Depths
pub mod Reordered
pub mod Rows
