pub mod Examples
pub mod Header
pub mod Unique
