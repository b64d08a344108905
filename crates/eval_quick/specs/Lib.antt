pub mod Direct
pub mod Leaves
