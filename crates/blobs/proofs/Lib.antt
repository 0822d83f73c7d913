pub mod BlobLaws
pub mod LoopLaws
pub mod LexemeLaws
pub mod TextLaws
pub mod Theorems
