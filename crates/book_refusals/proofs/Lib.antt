pub mod Placed
pub mod Words
