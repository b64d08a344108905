pub mod Living
pub mod Recording
