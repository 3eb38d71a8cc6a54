pub mod Checked
pub mod Solid
