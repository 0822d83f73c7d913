pub mod FoldLaws
pub mod Theorems
