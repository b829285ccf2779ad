mod LaterImpls
mod LaterProofs
mod Rests
mod RuleCandidates
mod ShownSteps
mod Staying
mod UnseenCrates
mod Unmatched
mod Rowless
mod InstanceFacts
mod OwnTerms
mod RefusedGoals
mod HeldGoals
mod ClaimsLater
mod FreeGoals
mod HeadersApart
mod PassedImpls
mod BoundGoals
-- The crates below whose names the crates above need too: these list this crate alone.
pub use Rattle.sessions.proofs as Sessions
pub use Rattle.sessions.proofs.ProofChecker
pub use Rattle.sessions.proofs.TypeTerms
