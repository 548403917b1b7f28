pub mod Spans
pub mod Windows
