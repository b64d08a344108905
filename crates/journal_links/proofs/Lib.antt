pub mod Placing
pub mod Following
