pub mod Means
pub mod Histories
