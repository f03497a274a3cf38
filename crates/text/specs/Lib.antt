pub mod Text
pub mod Lines
pub mod Scan
pub mod Read
pub mod Bounds
pub mod Write
