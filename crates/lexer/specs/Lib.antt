pub mod Values
pub mod Eaten
