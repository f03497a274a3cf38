pub mod Pieces
pub mod Lines
pub mod ChildPieces
pub mod AnswerParts
pub mod Dues
pub mod HeldLines
pub mod Room
