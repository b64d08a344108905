pub mod Complaint
pub mod Edge
pub mod Options
pub mod Words
