pub mod WalkLaws
pub mod Computed
