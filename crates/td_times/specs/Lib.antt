pub mod Times
pub mod Stamps
pub mod Moments
