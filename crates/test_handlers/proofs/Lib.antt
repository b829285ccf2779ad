pub mod Counted
pub mod LawfulBooks
pub mod AtomTables
