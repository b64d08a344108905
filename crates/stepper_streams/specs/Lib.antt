pub mod Counted
pub mod Held
pub mod Laws
pub mod Lines
pub mod Outlet
pub mod Pieces
