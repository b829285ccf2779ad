pub mod LastChild
pub mod MarkedTexts
