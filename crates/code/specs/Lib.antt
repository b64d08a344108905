pub mod View
pub mod Index
pub mod Frames
pub mod Props
pub mod Newest
pub mod Sameness
