pub mod Acting
pub mod Acts
pub mod Reading
pub mod Laws
pub mod Deeds
pub mod Theorems
pub mod Sending
