pub mod Lists
pub mod Branches
pub mod Answers
pub mod Rounds
