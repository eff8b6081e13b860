pub mod Quote
pub mod QuoteLaws
pub mod Meaning
pub mod MeaningLaws
pub mod Turns
