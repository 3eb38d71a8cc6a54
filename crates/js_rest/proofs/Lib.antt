pub mod Crossing
pub mod Telling
pub mod Failing
pub mod Finding
pub mod Fresh
pub mod Putting
pub mod Composing
