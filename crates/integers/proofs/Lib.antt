pub mod NumberLaws
pub mod SignLaws
pub mod ReadingLaws
pub mod WritingLaws
pub mod RoundLaws
pub mod Theorems
pub mod TextLaws
