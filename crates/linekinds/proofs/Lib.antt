pub mod Threes
pub mod Defined
pub mod LineNumbers
pub mod ReadLines
pub mod Packing
pub mod PlainText
pub mod ReadLists
pub mod PlainLines
