-- What may cross threads: a book and what was run of it.
pub mod Names
pub mod Values
pub mod States
pub mod Messages
pub mod More
pub mod Turns
pub mod Worlds
pub mod Books
pub mod Shared
