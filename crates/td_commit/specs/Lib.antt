pub mod Clipped
pub mod Sound
pub mod Files
pub mod Given
