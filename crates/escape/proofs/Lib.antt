pub mod PutLaws
pub mod Unique
