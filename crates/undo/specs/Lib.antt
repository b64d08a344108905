pub mod Emptied
pub mod OpenView
pub mod CoreView
pub mod Standing
pub mod Written
