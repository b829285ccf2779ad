-- The definitions that a reader of the promises must know.
pub mod Declarations
pub mod Faults
pub mod Syntax
pub mod Text
pub mod Written
pub mod CoreText
pub mod Grammar
pub mod LineFaults
pub mod LineMeanings
pub mod Mentions
pub mod PrintedTypes
pub mod TextSays
pub mod Desugared
