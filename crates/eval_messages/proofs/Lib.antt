pub mod Behind
pub mod Rooms
pub mod Made
pub mod Same
pub mod Arguments
