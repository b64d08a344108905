pub mod Births
pub mod Listings
pub mod EventNames
pub mod Pictures
pub mod Plains
