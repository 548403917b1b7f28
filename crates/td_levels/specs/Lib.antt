pub mod Levels
pub mod Taken
pub mod Fits
pub mod Ranges
pub mod Laws
pub mod Sets
pub mod Days
