pub mod Steps
pub mod Checked
pub mod Rows
