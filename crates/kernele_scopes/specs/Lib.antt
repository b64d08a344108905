pub mod Bindings
pub mod Check
pub mod Found
pub mod Free
pub mod Parts
pub mod Room
pub mod Scope
pub mod Words
