pub mod Profiles
pub mod Numbers
pub mod Told
