pub mod Closed
pub mod OneNumber
pub mod Apart
pub mod Numbers
pub mod Operators
