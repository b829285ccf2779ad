-- What the promises of the calls rest on.
pub mod AnsweredSets
pub mod CoherentTexts
pub mod Entailment
pub mod FrameBounds
pub mod Given
pub mod OwnValues
pub mod Promises
pub mod Releases
pub mod Shortages
pub mod Subjects
pub mod Together
