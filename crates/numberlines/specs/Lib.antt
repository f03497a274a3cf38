pub mod NumberLines
pub mod Runs
