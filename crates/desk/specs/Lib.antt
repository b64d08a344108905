pub mod Desks
pub mod DeskView
