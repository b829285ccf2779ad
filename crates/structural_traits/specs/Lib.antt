pub mod Constituents
