pub mod NumberLaws
pub mod WriteLaws
pub mod Unique
