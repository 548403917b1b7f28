pub mod Parsing
pub mod Matched
