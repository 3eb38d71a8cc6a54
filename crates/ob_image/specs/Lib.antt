pub mod Stores
pub mod Runs
pub mod Counted
pub mod Compiled
pub mod CommandsCode
pub mod Loading
pub mod Bounds
