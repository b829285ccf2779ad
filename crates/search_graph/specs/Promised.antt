-- The definitions that the promises of the public calls depend on.
pub mod FrameBound
