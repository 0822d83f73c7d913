pub mod Triggers
pub mod Seen
