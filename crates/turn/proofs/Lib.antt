pub mod Deliveries
pub mod Knowing
pub mod Calling
pub mod Waiting
pub mod Meeting
pub mod Telling
