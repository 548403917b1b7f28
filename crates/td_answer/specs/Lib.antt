pub mod Lines
pub mod Picks
pub mod Firsts
