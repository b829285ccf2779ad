pub mod KindOrder
pub mod PathSets
pub mod UsageFacts
pub mod HeadFacts
pub mod ReadHeads
