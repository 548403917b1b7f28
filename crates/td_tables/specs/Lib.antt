pub mod Latest
pub mod Contents
pub mod Held
