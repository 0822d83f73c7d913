pub mod RecordLaws
pub mod Theorems
