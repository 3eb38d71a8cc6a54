pub mod Grammar
pub mod StatementReading
pub mod StructureReading
pub mod DeclarationReading
pub mod GrammarReading
pub mod CellText
pub mod TreeOf
