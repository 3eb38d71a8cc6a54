pub mod Solid
pub mod Formed
pub mod Fitting
pub mod Agreeing
