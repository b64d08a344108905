pub mod Walks
pub mod Leads
pub mod Settling
pub mod Forms
pub mod Unfolds
pub mod Kinds
pub mod Laws
