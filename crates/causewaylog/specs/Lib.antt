pub mod Turns
pub mod Live
pub mod Facts
pub mod Log
