pub mod Feeds
pub mod Gathering
pub mod Giving
pub mod Lawful
pub mod Taking
