pub mod Views
pub mod Fitting
pub mod Indexed
pub mod Newest
pub mod Pairs
pub mod Zipped
pub mod Alike
