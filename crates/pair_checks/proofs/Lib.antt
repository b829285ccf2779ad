pub mod Lists
mod ErasedHeads
mod TraitLists
mod ByTrait
mod Matching
pub mod ImpossibleAlone
