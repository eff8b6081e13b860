pub mod Nulls
pub mod Walk
pub mod Row
pub mod RowLaws
