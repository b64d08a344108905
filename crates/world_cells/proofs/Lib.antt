pub mod Cells
pub mod Changing
pub mod Worlds
