pub mod Totals
pub mod Lists
pub mod Seats
pub mod Keeps
