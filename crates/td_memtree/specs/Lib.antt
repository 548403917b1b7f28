pub mod Keys
pub mod Parts
pub mod Places
pub mod Branches
pub mod Pairs
pub mod Pending
pub mod Within
