pub mod Heads
pub mod Replay
pub mod Stands
pub mod Breaks
pub mod Laws
