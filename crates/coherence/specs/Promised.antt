-- What the promises of the calls rest on.
pub mod CheckAnswers
pub mod CrateAnswers
pub mod ProvedAnswers
pub mod Streams
pub mod Told
pub mod Values
