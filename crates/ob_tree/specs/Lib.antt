pub mod Phrase
pub mod Name
pub mod Ahead
pub mod Expression
pub mod Statement
pub mod Structure
pub mod Declaration
pub mod FirstToken
