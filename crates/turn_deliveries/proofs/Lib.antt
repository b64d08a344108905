pub mod Coming
pub mod Begun
pub mod Ending
pub mod Turns
pub mod Table
