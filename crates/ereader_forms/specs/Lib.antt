pub mod Forms
pub mod View
