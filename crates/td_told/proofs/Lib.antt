pub mod Fits
pub mod Plays
pub mod Orders
pub mod Counts
pub mod Tells
pub mod Worked
