pub mod Promised
pub mod Faults
pub mod Lines
pub mod Groups
pub mod Inferring
pub mod KeptLines
pub mod KeptSessions
pub mod LineByLine
pub mod LineSources
pub mod Asking
pub mod Queries
-- The crates below whose names the crates above need too: these list this crate alone.
pub use Rattle.session_inference.specs as SessionInference
pub use Rattle.sessions.specs.TextLanguage
pub use Rattle.text_parser.specs as TextParser
pub use Rattle.text_parser.specs.TextNames
