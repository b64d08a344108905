pub mod Seen
pub mod Clones
pub mod Touches
pub mod Rows
pub mod Doing
