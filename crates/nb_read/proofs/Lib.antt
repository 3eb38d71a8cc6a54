pub mod Lent
pub mod WholeNumbers
pub mod Keeping
pub mod Lists
pub mod Named
pub mod Own
pub mod Exact
pub mod BookPuts
