pub mod Breaks
pub mod Bytes
pub mod Cutting
pub mod Laws
pub mod Spelling
pub mod Table
pub mod Tokens
pub mod Names
