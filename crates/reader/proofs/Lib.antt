pub mod ReaderLaws
pub mod Theorems
