pub mod CoreState
pub mod Covers
pub mod Submits
pub mod Carrying
pub mod Commits
pub mod Installs
