pub mod Trees
pub mod Sequences
pub mod Loops
pub mod Calls
pub mod Endings
pub mod Rounds
