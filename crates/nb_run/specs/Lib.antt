pub mod Runs
pub mod Going
pub mod Statuses
