pub mod Show
pub mod ShowView
pub mod PictureView
pub mod Listing
pub mod ListingView
pub mod Steps
pub mod StepsView
pub mod Plain
