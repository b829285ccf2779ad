pub mod Each
mod Crates
mod Names
mod Consistent
mod Sections
mod InSection
mod Lines
mod CoreLemmas
mod Stacks
mod Lowering
mod CellLists
mod Refusals
mod Counting
mod CellCounts
mod Unasked
