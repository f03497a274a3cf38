pub mod Chosen
pub mod Moved
pub mod Bounds
