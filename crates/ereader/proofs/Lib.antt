pub mod Nesting
pub mod Programs
pub mod Answered
pub mod Limits
