pub mod Each
pub mod Tells
pub mod Enough
pub mod Forks
pub mod Spans
pub mod Final
