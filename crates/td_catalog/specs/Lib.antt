pub mod Kept
pub mod Tables
pub mod Groups
pub mod Roomy
pub mod Inside
pub mod Parts
