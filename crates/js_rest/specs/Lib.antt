pub mod Routes
pub mod Kernels
pub mod Sessions
pub mod Opening
pub mod Contents
pub mod Changes
pub mod Answers
pub mod Parts
