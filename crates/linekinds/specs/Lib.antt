pub mod Lines
pub mod KeyLines
pub mod Reading
pub mod ListLines
pub mod PlainText
