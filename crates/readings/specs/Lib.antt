pub mod Arrows
pub mod Settled
