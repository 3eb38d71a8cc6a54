pub mod Reading
pub mod NameReading
pub mod ExpressionReading
