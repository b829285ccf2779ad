pub mod Frames
pub mod Walking
