pub mod Turn
pub mod Touched
pub mod Spent
pub mod Outcomes
pub mod Table
pub mod Laws
