pub mod Puts
pub mod InOrder
pub mod Ranges
pub mod Walked
pub mod Scanned
