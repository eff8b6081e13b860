pub mod Time
pub mod Duration
pub mod SignLaws
