pub mod Depths
pub mod Expected
