pub mod StepLaws
pub mod ReadLaws
pub mod WriteLaws
pub mod PairLaws
pub mod Theorems
