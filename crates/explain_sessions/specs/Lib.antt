pub mod Adding
pub mod Causes
pub mod Claims
pub mod Refusals
pub mod Rules
pub mod Shown
pub mod Unknowns
pub mod Unseen
pub mod Walked
-- The crates below whose names the crates above need too: these list this crate alone.
pub use Rattle.explain_traces.specs as ExplainTraces
pub use Rattle.sessions.specs as Sessions
pub use Rattle.sessions.specs.OrphanCheck
pub use Rattle.sessions.specs.ProofChecker
pub use Rattle.sessions.specs.TextLanguage
pub use Rattle.sessions.specs.TypeTerms
pub use Rattle.sessions.specs.TextTables
