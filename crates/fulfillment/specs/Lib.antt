pub mod Obligations
pub mod Leaving
pub mod Selecting
