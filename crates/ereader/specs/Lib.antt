pub mod Shown
pub mod Brackets
pub mod View
pub mod Texts
pub mod Laws
