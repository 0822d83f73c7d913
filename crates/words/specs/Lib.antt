pub mod Bytes
pub mod Word
