pub mod Seats
pub mod Workshop
