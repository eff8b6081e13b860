pub mod Moves
pub mod Writing
pub mod Rounds
pub mod Unique
pub mod Corner
