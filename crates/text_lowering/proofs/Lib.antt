pub mod Basics
mod Going
mod Rows
mod References
mod Structs
mod Views
mod BehindViews
mod Unknowns
pub mod Begins
pub mod Plainly
mod Named
mod PlainLists
pub mod Sorts
pub mod Tests
pub mod Trees
pub mod Scalars
mod Types
pub mod Standing
mod Lines
mod Params
pub mod ScalarTokens
mod FineLines
pub mod EachLine
mod DeclaredItems
pub mod Spoken
pub mod Applied
pub mod Texts
pub mod SeenViews
mod Headers
mod Heights
pub mod WellSeen
pub mod Matched
mod Told
mod ReadySeen
pub mod Variables
mod QuestionTypes
mod QuestionTexts
pub mod LaterImpls
mod Counts
