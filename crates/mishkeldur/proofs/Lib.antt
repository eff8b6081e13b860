pub mod AnswerLaws
pub mod EntryLaws
pub mod FaceLaws
pub mod PassLaws
pub mod StoreLaws
pub mod Unique
pub mod WholeLaws
