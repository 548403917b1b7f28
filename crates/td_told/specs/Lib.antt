pub mod Verdict
pub mod Asked
pub mod Times
pub mod Numbers
pub mod Journal
pub mod Replies
pub mod Told
pub mod Turn
