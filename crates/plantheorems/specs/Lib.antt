pub mod Everywhere
pub mod LegalPlans
pub mod PlanSizes
pub mod RunKinds
pub mod PlanRefusals
pub mod PlanDecisions
