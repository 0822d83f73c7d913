pub mod Shift
pub mod Inside
pub mod AnswerLaws
pub mod CallLaws
pub mod HeldLaws
pub mod Theorems
pub mod Progress
