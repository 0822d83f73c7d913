pub mod Verdicts
pub mod Pairing
