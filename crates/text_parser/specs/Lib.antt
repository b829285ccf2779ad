pub mod Making
pub mod Meant
pub mod Numbering
pub mod Keeping
pub mod Laws
pub mod Kept
pub mod Lines
pub mod Lists
pub mod WrittenLines
pub mod Forms
pub mod Declaring
pub mod Outcomes
pub mod Prefixes
pub mod BareLines
pub mod Entries
pub mod OwnItems
pub mod Parsing
pub mod Sights
pub mod Queries
pub mod Behind
-- The crates below whose names the crates above need too: these list this crate alone.
pub use Rattle.text_language.specs as TextLanguage
pub use Rattle.text_names.specs as TextNames
pub use Rattle.type_terms.specs as TypeTerms
pub use Rattle.text_tables.specs as TextTables
