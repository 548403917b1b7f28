pub mod Contents
pub mod Joined
pub mod Scanned
pub mod Tables
