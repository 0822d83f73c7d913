pub mod KindLaws
pub mod TokenLaws
pub mod ReadingLaws
pub mod Theorems
