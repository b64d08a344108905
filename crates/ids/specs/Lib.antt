pub mod Quoted
pub mod Names
pub mod Cells
pub mod NameLaws
pub mod KeyLaws
pub mod CellKeys
pub mod References
