pub mod EndLaws
pub mod SeenLaws
pub mod Theorems
