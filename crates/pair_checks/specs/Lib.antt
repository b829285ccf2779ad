pub mod ByTrait
pub mod Impossible
