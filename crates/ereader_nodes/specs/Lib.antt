pub mod Nodes
pub mod View
