pub mod Alone
pub mod Lent
pub mod Working
pub mod crossing
