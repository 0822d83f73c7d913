pub mod FillLaws
pub mod Theorems
