pub mod Numbers
pub mod Integers
pub mod Calls
pub mod Texts
