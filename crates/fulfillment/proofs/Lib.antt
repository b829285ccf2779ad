pub mod Lists
pub mod Leaving
pub mod Noting
pub mod Starting
pub mod Selections
pub mod Together
pub mod Restoring
pub mod OwnTables
