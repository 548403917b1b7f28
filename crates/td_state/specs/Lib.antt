pub mod Latest
pub mod Contents
pub mod Held
pub mod Kinds
pub mod Heads
pub mod Facts
