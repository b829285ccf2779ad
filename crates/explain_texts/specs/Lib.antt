pub mod Claimed
pub mod Doubts
pub mod ItemLines
pub mod Marks
pub mod Orphans
pub mod Reasons
-- The crates below whose names the crates above need too: these list this crate alone.
pub use Rattle.explain_sessions.specs as ExplainSessions
pub use Rattle.explain_sessions.specs.ProofChecker
pub use Rattle.explain_sessions.specs.Sessions
pub use Rattle.explain_sessions.specs.TextLanguage
pub use Rattle.explain_sessions.specs.TypeTerms
pub use Rattle.explain_sessions.specs.TextTables
