pub mod Ordered
pub mod Bags
pub mod Filed
pub mod Found
pub mod Answer
