pub mod Active
pub mod Stored
pub mod Standing
pub mod Carried
