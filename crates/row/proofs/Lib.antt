pub mod BitLaws
pub mod StepLaws
pub mod WalkLaws
pub mod EndLaws
pub mod Unique
