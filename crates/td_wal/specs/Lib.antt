pub mod Append
pub mod Items
pub mod Log
pub mod Parts
