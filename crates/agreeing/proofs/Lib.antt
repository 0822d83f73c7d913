pub mod AgreeLaws
pub mod StepLaws
pub mod Theorems
pub mod TextLaws
