pub mod FieldPlaces
pub mod Chains
