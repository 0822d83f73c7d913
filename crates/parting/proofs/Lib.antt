pub mod Ready
pub mod Keeps
pub mod Walks
pub mod Parting
pub mod Kept
pub mod Phases
pub mod Reached
pub mod Theorems
