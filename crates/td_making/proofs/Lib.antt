pub mod CommitHeads
pub mod NextSets
pub mod Stores
