pub mod Starts
pub mod ItemLists
pub mod Texts
pub mod Answered
pub mod Alike
pub mod OneAnswer
pub mod SameTrees
