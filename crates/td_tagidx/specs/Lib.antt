pub mod Indexed
pub mod Subtables
pub mod Order
pub mod Slots
pub mod Runs
pub mod Inside
