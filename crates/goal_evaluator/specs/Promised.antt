-- Definitions on which the promises of the calls rest.
pub mod Widths
