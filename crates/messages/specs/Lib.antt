pub mod Marked
pub mod Told
pub mod Written
