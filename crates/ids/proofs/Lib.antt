pub mod Keys
pub mod CellKeys
pub mod NameLaws
pub mod Quoting
pub mod Failing
pub mod References
