pub mod Places
pub mod Followers
pub mod Heirs
