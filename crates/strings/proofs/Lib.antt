pub mod QuoteLaws
pub mod LoopLaws
pub mod LexemeLaws
pub mod TextLaws
pub mod Theorems
