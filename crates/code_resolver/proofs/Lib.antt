pub mod Places
pub mod Growing
pub mod Made
pub mod Ranks
pub mod Sides
