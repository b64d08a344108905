pub mod Arguments
pub mod Ending
