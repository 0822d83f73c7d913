pub mod Blobs
pub mod Calls
pub mod Texts
