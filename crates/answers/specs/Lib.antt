pub mod AnswerLists
