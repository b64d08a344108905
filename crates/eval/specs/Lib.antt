pub mod Escaping
pub mod Choosing
pub mod Unwanted
pub mod Leading
pub mod Sides
