pub mod Cuts
pub mod Texts
