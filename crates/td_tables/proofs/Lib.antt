pub mod Subtables
pub mod Parts
pub mod Steps
pub mod Judged
