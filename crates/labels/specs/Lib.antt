pub mod Phases
pub mod Readings
