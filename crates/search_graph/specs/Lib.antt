pub mod Promised
pub mod Meaning
pub mod Computed
pub mod Shown
pub mod Rests
pub mod Stack
pub mod Provisional
pub mod Question
pub mod Unlimited
pub mod Steps
pub mod Turn
pub mod Plain
pub mod Proof
pub mod Faithful
pub mod Cache
pub mod Chain
pub mod Answer
pub mod Bound
pub mod SearchState
-- The crate below, whose names the crates above need too: these list this crate alone.
pub use Rattle.search_paths.specs as SearchPaths
pub use Rattle.search_paths.specs.Laws
pub use Rattle.search_paths.specs.Path
pub use Rattle.search_paths.specs.Usages
pub use Rattle.search_paths.specs.Nested
pub use Rattle.search_paths.specs.Heads
pub use Rattle.search_paths.specs.KeptPaths
