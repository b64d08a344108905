pub mod Heads
pub mod View
pub mod Levels
