pub mod Finishing
pub mod Forming
pub mod Distributed
