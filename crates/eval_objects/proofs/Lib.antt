mod Methods
pub mod Reached
pub mod Places
pub mod Drafted
mod Ending
mod Missing
pub mod OnData
mod Leading
mod Waiting
mod Targets
mod Entering
