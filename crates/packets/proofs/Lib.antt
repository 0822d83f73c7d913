pub mod StateLaws
pub mod Theorems
