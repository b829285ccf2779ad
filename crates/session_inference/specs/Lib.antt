pub mod Assuming
pub mod Contexts
pub mod Inferences
pub mod LeftInferences
pub mod Operations
pub mod Primitives
pub mod Shapes
pub mod TermTexts
