pub mod TakeLaws
pub mod Theorems
