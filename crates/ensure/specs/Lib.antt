pub mod Outcomes
pub mod Lent
