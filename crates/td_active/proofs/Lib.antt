pub mod Nexts
pub mod Behinds
pub mod Written
