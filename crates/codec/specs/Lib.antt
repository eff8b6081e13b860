pub mod Connection
pub mod ConnectionLaws
pub mod ReachLaws
