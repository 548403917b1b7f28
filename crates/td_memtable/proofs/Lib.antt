pub mod Kept
pub mod Sound
pub mod Scans
pub mod Joining
pub mod Rising
pub mod OneJoin
pub mod Firsts
pub mod Walked
