-- The definitions that promises of this crate use.
pub mod Errors
