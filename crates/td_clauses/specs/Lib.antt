pub mod Productions
pub mod Written
