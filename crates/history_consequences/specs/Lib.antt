pub mod Orderly
pub mod Versions
pub mod Sets
pub mod Index
pub mod Refusals
pub mod Laws
