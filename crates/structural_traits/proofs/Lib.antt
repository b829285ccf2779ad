pub mod Misfits
pub mod Fitting
pub mod Structs
pub mod Trees
pub mod Rows
pub mod FieldRows
