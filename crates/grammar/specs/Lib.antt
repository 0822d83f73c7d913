pub mod Form
pub mod Classes
pub mod Refusals
pub mod Answers
pub mod Longest
pub mod Texts
pub mod Runs
