pub mod Finding
pub mod Making
pub mod View
