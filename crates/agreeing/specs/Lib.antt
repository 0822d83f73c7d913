pub mod Refusals
pub mod Agreeing
pub mod Steps
pub mod Texts
