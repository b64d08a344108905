pub mod Vats
pub mod Making
pub mod Playing
pub mod Table
pub mod Laws
pub mod View
