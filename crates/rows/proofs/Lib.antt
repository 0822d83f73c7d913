pub mod OutLaws
pub mod Theorems
