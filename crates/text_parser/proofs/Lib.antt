pub mod Sizes
pub mod Stacks
pub mod Plain
pub mod TypesMade
pub mod Standing
pub mod Fits
pub mod KeptCells
pub mod KeptTypes
pub mod Digits
mod Texts
mod FirstBytes
mod Shortness
mod Formed
mod Few
mod ListsTaken
mod ManyLines
mod TypeBytes
mod TypedCells
mod TypedTaken
mod OwnFaults
mod Taking
pub mod Ordering
pub mod WhatIsAdded
pub mod OwnKnown
pub mod Sections
pub mod Sighted
pub mod Meaning
pub mod Adding
pub mod Parsed
mod Queried
mod Behind
