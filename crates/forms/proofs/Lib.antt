pub mod Formed
pub mod Steps
pub mod Each
pub mod Turns
pub mod Rounds
pub mod Rounded
pub mod Standing
pub mod Decided
