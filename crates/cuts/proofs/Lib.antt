pub mod CutLaws
pub mod Theorems
pub mod TextLaws
