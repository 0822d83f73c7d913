pub mod Alone
pub mod Row
pub mod Whole
pub mod Forms
pub mod Theorems
