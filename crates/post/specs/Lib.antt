pub mod Delivery
pub mod Blocks
pub mod DeliveryView
pub mod Messages
pub mod MessageView
