pub mod Reading
pub mod Places
pub mod Faults
pub mod Writing
pub mod Days
pub mod Lists
