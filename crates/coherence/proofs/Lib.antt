pub mod StreamLemmas
pub mod LineLaws
pub mod Places
pub mod AllBytes
pub mod ErasedTexts
pub mod Sets
pub mod Grouping
pub mod KeptLines
pub mod KeptSessions
pub mod Named
pub mod Answered
pub mod TermVariables
pub mod ErasedValues
pub mod Topics
pub mod TypesMet
pub mod HeaderNames
pub mod OpenedTypes
pub mod ImplTypeTexts
pub mod OrphanReasons
pub mod ImplParams
pub mod CrateAnswersHold
pub mod SupersInTurn
pub mod OpaqueHeaders
pub mod AskedHeaders
pub mod CheckAnswersHold
mod OneValue
mod SpelledNames
mod SameTerms
mod Found
mod CompanionTraits
mod CompanionPairs
mod CompanionImpls
mod CompanionsStand
mod TypeValues
mod ValuesAreOne
pub mod AcceptedTexts
pub mod Told
pub mod SourceLines
pub mod FullTables
pub mod Asking
pub mod QueryValues
pub mod ImplNumbers
