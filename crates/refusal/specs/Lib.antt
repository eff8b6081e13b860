pub mod Number
pub mod Said
