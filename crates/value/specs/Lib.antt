pub mod Kinds
pub mod Numbers
pub mod Dates
pub mod DateLaws
pub mod Read
pub mod Steps
pub mod Write
pub mod ValueLaws
