pub mod Assignments
pub mod StandardCalls
pub mod Calls
pub mod Labels
pub mod LabelIndex
pub mod Statements
