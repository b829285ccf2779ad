pub mod Files
pub mod Names
pub mod Places
pub mod Shown
