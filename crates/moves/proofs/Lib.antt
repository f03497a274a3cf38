pub mod Rows
pub mod HeldRoom
pub mod HeldKeys
pub mod HeldJoins
pub mod Projections
pub mod Choices
