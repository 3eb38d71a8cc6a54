pub mod Shapes
pub mod Kinds
