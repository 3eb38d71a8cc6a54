pub mod Known
pub mod Trees
pub mod Lists
pub mod Sequences
pub mod Generated
