pub mod Steps
pub mod Way
pub mod Settled
pub mod Making
pub mod Rules
pub mod Open
pub mod Hurried
pub mod Unfolding
