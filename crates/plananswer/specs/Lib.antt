pub mod PlanTexts
pub mod RowTexts
pub mod SheetTexts
pub mod Sizes
pub mod PlanDecision
