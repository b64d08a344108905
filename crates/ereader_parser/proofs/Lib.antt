pub mod Views
pub mod Steps
pub mod Levels
pub mod Parts
