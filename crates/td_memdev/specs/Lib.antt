pub mod Entries
pub mod Handles
pub mod Kept
pub mod Memory
pub mod Parts
pub mod Tables
pub mod Track
