pub mod Items
pub mod Lines
pub mod Settled
pub mod SettledView
pub mod Links
pub mod Journals
pub mod Standing
