pub mod Acts
pub mod Agrees
pub mod Moves
pub mod Rooms
