pub mod Toys
pub mod Counted
pub mod Atoms
