pub mod Returns
pub mod Readings
pub mod Cutting
pub mod Counting
pub mod Whole
pub mod Progress
