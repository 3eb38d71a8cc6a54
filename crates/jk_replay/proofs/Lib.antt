pub mod EntryLines
pub mod InputLemmas
mod LineLemmas
pub mod Replayed
mod WritingLemmas
mod Done
mod Going
mod Final
