pub mod Halves
pub mod Views
pub mod Walks
