pub mod Refusals
pub mod Lists
pub mod Lines
pub mod Parts
pub mod Passing
pub mod Slices
pub mod Gapless
pub mod Texts
