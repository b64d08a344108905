pub mod Reruns
pub mod Steps
