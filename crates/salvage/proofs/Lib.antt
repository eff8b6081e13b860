pub mod RunLaws
pub mod PutLaws
pub mod RoundLaws
pub mod EndLaws
pub mod Examples
pub mod Unique
pub mod Steps
