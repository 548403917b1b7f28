pub mod Writers
pub mod Points
pub mod Ends
