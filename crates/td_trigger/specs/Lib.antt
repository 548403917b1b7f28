pub mod Closing
pub mod Ranges
pub mod Regions
pub mod Splices
