pub mod Told
pub mod Outputs
pub mod Asked
pub mod Calls
pub mod Inferred
pub mod Slots
pub mod Handles
