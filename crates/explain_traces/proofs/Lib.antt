pub mod Steps
pub mod Walks
pub mod Opened
