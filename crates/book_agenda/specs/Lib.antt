pub mod Waiting
pub mod Ways
pub mod Enabled
pub mod Agendas
pub mod AgendaView
pub mod Found
