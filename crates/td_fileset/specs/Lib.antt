pub mod Stack
pub mod Ranges
pub mod Sources
pub mod Merged
pub mod Layered
pub mod Opened
pub mod Pieces
pub mod Pinned
