pub mod Pairs
pub mod Parts
