pub mod Tree
pub mod View
pub mod Spelling
pub mod Halves
