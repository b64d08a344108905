pub mod Grammar
pub mod Reading
pub mod View
pub mod Written
pub mod Spelled
pub mod Laws
