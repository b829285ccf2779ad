pub mod Laws
pub mod Path
pub mod Usages
pub mod Nested
pub mod Heads
pub mod KeptPaths
