mod Beginnings
mod Comments
mod FrontReading
mod Gaps
mod NumberTokens
mod OneList
mod Runs
mod Shorter
mod SignTokens
mod Spellings
mod StringTokens
mod TokenLists
pub mod TokenReading
mod WordTokens
pub mod SymbolLemmas
