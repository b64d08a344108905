pub mod Cells
pub mod Names
pub mod Overlaid
pub mod Growing
pub mod Reaching
pub mod CellKinds
pub mod Alike
pub mod Drafting
