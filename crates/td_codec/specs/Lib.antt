pub mod Fields
pub mod Lists
pub mod Values
pub mod Writing
