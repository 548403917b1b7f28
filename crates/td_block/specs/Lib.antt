pub mod Bits
pub mod Columns
pub mod Rows
pub mod Blocks
pub mod Headers
