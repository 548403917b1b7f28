pub mod Productions
pub mod Statements
pub mod Written
