pub mod Decision
pub mod Entry
pub mod PlanHeld
pub mod Rooms
