pub mod Mapped
pub mod Greatest
