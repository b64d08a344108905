pub mod Subject
pub mod Journal
pub mod Records
pub mod Chains
pub mod Stands
pub mod Walks
pub mod Cone
pub mod Theorems
