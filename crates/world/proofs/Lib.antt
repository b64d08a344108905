pub mod Going
pub mod Impossible
pub mod Naming
pub mod Numbering
pub mod Stepping
