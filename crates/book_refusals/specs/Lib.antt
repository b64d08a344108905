pub mod Refusals
pub mod Fault
pub mod Checks
