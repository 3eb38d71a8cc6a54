pub mod PathLemmas
pub mod NameLemmas
pub mod MoveLemmas
pub mod RefusalLemmas
pub mod PlaceLemmas
