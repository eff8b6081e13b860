pub mod Host
pub mod HostLaws
pub mod Arrivals
pub mod Written
pub mod Line
pub mod Code
pub mod Straight
