pub mod Bounds
pub mod Sheets
