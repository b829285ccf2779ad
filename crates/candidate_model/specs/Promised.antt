-- The definitions that the promises of the calls rest on.
pub mod Widths
