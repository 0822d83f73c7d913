pub mod Quotes
pub mod Closing
pub mod Calls
pub mod Texts
