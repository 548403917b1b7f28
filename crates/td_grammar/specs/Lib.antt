pub mod Kinds
pub mod Names
pub mod Grammar
pub mod Samples
pub mod Gives
pub mod Words
