pub mod Seats
pub mod SharedBook
pub mod SharedBookView
pub mod Author
pub mod Limits
