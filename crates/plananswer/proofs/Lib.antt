pub mod RowLines
pub mod SheetRows
pub mod AnswerLong
pub mod SizedPlans
pub mod SizedAnswers
pub mod PlanAnswersFit
pub mod Examples
