pub mod HeldArgs
pub mod Kept
pub mod MetTypes
-- The crates below whose names the crates above need too: these list this crate alone.
pub use Rattle.explain_sessions.proofs.ProofChecker
pub use Rattle.explain_sessions.proofs.Sessions
pub use Rattle.explain_sessions.proofs.TypeTerms
