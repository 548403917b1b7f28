pub mod Order
pub mod Sound
